-- Bytes and the numbers that they make, the least significant byte first (document 01: numbers are little-endian unless said).
use Rattle.std.specs.Prelude.{ℕ, zero, suc, ◌+◌, ◌*◌, ◌/◌, ◌%◌, ◌<◌, ◌≡◌, Bool, true, false, cond, ◌&&◌, List, [], ◌∷◌, eqb, length, get_or}

-- each element is a byte; past the end stands 0, so this holds of every slice of bytes
abbrev pub Bytes : List ℕ → Type 0
Bytes l = (i : ℕ) → get_or l i 0 < 256

-- n bytes
pub record Packet (n : ℕ) (p : List ℕ) : Type 0 where
  pub size : length p ≡ n
  pub bytes : Bytes p

-- the number that the bytes make
abbrev pub number : List ℕ → ℕ
number [] = 0
number (b ∷ bs) = b + 256 * number bs

-- the k low bytes of v
abbrev pub bytes_of : ℕ → ℕ → List ℕ
bytes_of zero v = []
bytes_of (suc k) v = v % 256 ∷ bytes_of k (v / 256)

-- the k bytes of p from place i
abbrev pub bytes_at : ℕ → ℕ → List ℕ → List ℕ
bytes_at zero i p = []
bytes_at (suc k) i p = get_or p i 0 ∷ bytes_at k (suc i) p

-- what a copy leaves in its target: the source, if both are equally long
abbrev pub copy_of : (target source : List ℕ) → List ℕ
copy_of target source = cond (eqb (length target) (length source)) source target

-- two lists are the same
unfoldable pub same : (a b : List ℕ) → Bool
same [] [] = true
same [] (y ∷ ys) = false
same (x ∷ xs) [] = false
same (x ∷ xs) (y ∷ ys) = eqb x y && same xs ys
