-- When 16 is replied; what writing promises in each case is in proofs/Promises.antt.
use Rattle.std.specs.Prelude.{ℕ, ◌≡◌, refl, ◌↔◌, Bool, true, false, cond, List, length, leb}
use Rattle.std.proofs.Common.{ap, arith}
use Rattle.writing_file.specs.Write.{WriteReply, wrote, refusal, write_reply}

-- the number of a refusal, 0 where the bytes were written
abbrev numbered : WriteReply → ℕ
numbered (wrote n) = 0
numbered (refusal k p) = k

-- 16 IS REPLIED to tables that are not read again, and to no others
pub sixteen_exactly : (b : Bool) (w buffer : List ℕ) → (write_reply b w buffer ≡ refusal 16 0) ↔ (b ≡ false)
sixteen_exactly b w buffer = (only b (leb (length w) (length buffer)), λ e. ap (λ c. write_reply c w buffer) e)
  where
    only : (b c : Bool) → cond b (cond c (wrote (length w)) (refusal 17 0)) (refusal 16 0) ≡ refusal 16 0 → b ≡ false
    only true true e = let z : ◌≡◌ {A = ℕ} 0 16 = ap numbered e in absurd (omega arith)
    only true false e = let z : ◌≡◌ {A = ℕ} 17 16 = ap numbered e in absurd (omega arith)
    only false c e = refl
