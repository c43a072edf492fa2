-- Lent memory that is made from one byte of a stream, and its digest.
use Rattle.std.specs.Prelude.{ℕ, zero, suc, ◌+◌, ◌*◌, ◌%◌, List, [], ◌∷◌}

-- so many bytes, each 7 more than the one before, modulo 256
unfoldable pub filled : ℕ → ℕ → List ℕ
filled byte zero = []
filled byte (suc n) = byte ∷ filled ((byte + 7) % 256) n

abbrev pub modulus : ℕ
modulus = 16777213

abbrev pub mixed : ℕ → ℕ → ℕ
mixed h byte = (h * 257 + byte + 1) % modulus

-- byte after byte
unfoldable pub digest_from : ℕ → List ℕ → ℕ
digest_from h [] = h
digest_from h (byte ∷ l) = digest_from (mixed h byte) l
