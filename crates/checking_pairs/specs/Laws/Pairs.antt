-- Numbers stand for pairs one to one.
use Rattle.std.specs.Prelude.{◌≡◌, refl, ◌⊎◌, Bool, true, false, ℕ, ◌+◌, ◌-◌, ◌*◌, ◌/◌, ◌%◌, ◌≤◌, ◌<◌, eqb}
use Rattle.std.proofs.Common.{sym, ap, ap₂, ◌∙◌, inl, inr, true≢false, arith, eqb-true, lt-ltb, le-ltb}
use Rattle.std.proofs.Math.Decide.{dec_lt}
use Rattle.std.proofs.lemmas.Bool.{eqb-false}
use Rattle.tables.specs.Limits.{most_pool}
use Rattle.theory_model.specs.Verdict.{before, after}
use Rattle.theory_model.specs.Judge.{same}
use Rattle.theory_model.specs.Laws.Judging.{same_equality}
use Rattle.checking_pairs.specs.declared.pairs.Node.{Node}
use Rattle.tables.specs.Kinds.{reached_of}
use Rattle.checking_pairs.specs.Pairs.{nowhere, stride, after_side, most_codes, side_of, decode, reached_code, code, NodeFits, Coded, NodeOf}

reached_code_lem : (t : ℕ) → reached_code (reached_of t) ≡ t
reached_code_lem t = by_test (eqb t nowhere) refl
  where
    by_test : (b : Bool) → eqb t nowhere ≡ b → reached_code (reached_of t) ≡ t
    by_test true e = rw (e, reached_of) (sym (eqb-true t nowhere e))
    by_test false e = rw (e, reached_of)

-- a number of the before side, and one of the after side
pub decode_low : (c : ℕ) → c < after_side → decode c ≡ before (c / stride) (reached_of (c % stride))
unfolding decode
decode_low c h = rw (lt-ltb c after_side h, decode)

pub decode_high : (c : ℕ) → after_side ≤ c → decode c ≡ after ((c - after_side) / stride) (reached_of ((c - after_side) % stride))
unfolding decode
decode_high c h = rw (le-ltb c after_side h, decode)

-- the number of a pair that a number stands for
pub code_decode : (c : ℕ) → code (decode c) ≡ c
code_decode c = by_test (dec_lt c after_side)
  where
    by_test : Dec (c < after_side) → code (decode c) ≡ c
    by_test (yes l) = ap code (decode_low c l) ∙ (omega (arith, reached_code_lem (c % stride)))
    by_test (no g) =
        ap code (decode_high c (omega arith))
        ∙ (let h : after_side ≤ c = omega arith in omega (arith, reached_code_lem ((c - after_side) % stride)))

pub decode_before : (s t : ℕ) → s < most_pool → t ≤ most_pool → decode (s * stride + t) ≡ before s (reached_of t)
decode_before s t hs ht =
    let q : (s * stride + t) / stride ≡ s = omega arith in
    let r : (s * stride + t) % stride ≡ t = omega arith in
    decode_low (s * stride + t) (omega arith) ∙ ap₂ (λ a b. before a (reached_of b)) q r

pub decode_after : (s t : ℕ) → s < most_pool → t ≤ most_pool → decode (after_side + s * stride + t) ≡ after s (reached_of t)
decode_after s t hs ht =
    let q : (after_side + s * stride + t - after_side) / stride ≡ s = omega arith in
    let r : (after_side + s * stride + t - after_side) % stride ≡ t = omega arith in
    decode_high (after_side + s * stride + t) (omega arith) ∙ ap₂ (λ a b. after a (reached_of b)) q r

pub decode_side : (k s t : ℕ) → (k ≡ 0) ⊎ (k ≡ after_side) → s < most_pool → t ≤ most_pool → decode (k + s * stride + t) ≡ side_of k s (reached_of t)
decode_side k s t (inl e) hs ht =
    ap decode (let z : k + s * stride + t ≡ s * stride + t = omega arith in z) ∙ decode_before s t hs ht ∙ ap (λ k. side_of k s (reached_of t)) (sym e)
decode_side k s t (inr e) hs ht =
    ap (λ k. decode (k + s * stride + t)) e ∙ decode_after s t hs ht ∙ ap (λ k. side_of k s (reached_of t)) (sym e)

-- two numbers stand for the same pair only if they are equal
pub same_codes : (a c : ℕ) → same (decode a) (decode c) ≡ eqb a c
same_codes a c = by_test (same (decode a) (decode c)) refl (eqb a c) refl
  where
    by_test : (b : Bool) → same (decode a) (decode c) ≡ b → (d : Bool) → eqb a c ≡ d → b ≡ d
    by_test true e true f = refl
    by_test false e false f = refl
    by_test true e false f =
        absurd (eqb-false a c f (sym (code_decode a) ∙ ap code ((same_equality (decode a) (decode c)).0 e) ∙ code_decode c))
    by_test false e true f =
        absurd (true≢false (sym ((same_equality (decode a) (decode c)).1 (ap decode (eqb-true a c f))) ∙ e))

-- NODES
pub side_most : {x : Node} → NodeFits x → x.side ≤ after_side
side_most {x} f = by_side f.side
  where
    by_side : (x.side ≡ 0) ⊎ (x.side ≡ after_side) → x.side ≤ after_side
    by_side (inl e) = omega arith
    by_side (inr e) = omega arith

pub node_coded : (x : Node) → NodeFits x → Coded x (x.side + x.source.0 * stride + x.target.0)
node_coded x f =
    record {
      small = omega (arith, side_most f, f.source, f.target);
      is = decode_side x.side x.source.0 x.target.0 f.side f.source f.target;
    }

pub node_low : (c : ℕ) → c < after_side → NodeOf c (record { side = 0; source = record { 0 = c / stride }; target = record { 0 = c % stride } })
node_low c h =
    record { fits = record { side = inl refl; source = omega arith; target = omega arith }; is = decode_low c h }

pub node_high : (c : ℕ) → after_side ≤ c → c < most_codes
    → NodeOf c (record { side = after_side; source = record { 0 = (c - after_side) / stride }; target = record { 0 = (c - after_side) % stride } })
node_high c h g =
    record { fits = record { side = inr refl; source = omega arith; target = omega arith }; is = decode_high c h }

pub after_side_lem : {x : Node} → NodeFits x → (x.side ≡ 0 → ⊥) → x.side ≡ after_side
after_side_lem {x} f far = by_side f.side
  where
    by_side : (x.side ≡ 0) ⊎ (x.side ≡ after_side) → x.side ≡ after_side
    by_side (inl e) = absurd (far e)
    by_side (inr e) = e
