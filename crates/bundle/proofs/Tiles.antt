-- The bodies of an accepted bundle tile the file, and each parses into records. Assumes nothing.
use mathlib.Core.Path.{◌≡◌, refl, sym, ap, ◌∙◌}
use mathlib.Core.Bool.{Bool, true, false}
use mathlib.Core.List.{List, [], ◌∷◌, ◌++◌, map, flatten}
use Prim.Native.Nat.{ℕ, suc, ◌+◌, ◌-◌, ◌<◌}
use native.Mathlib.Omega.{arith}
use borrow.Author.Tests.{eqb-true}
use lib.Dec.{eqb}
use lib.ListN.{length, take, drop, take-append-drop}
use lib.Seq.{drop-drop, drop-length}
use Rattle.wire.specs.Bytes.{Bytes}
use Rattle.wire.specs.Checks.{All}
use Rattle.wire.proofs.Bounds.{first_bytes, rest_bytes}
use Rattle.bundle_records.specs.Parse.{Parsed, whole, broken, records_of}
use Rattle.bundle_records.proofs.Written.{reads_written}
use Rattle.bundle_layout.specs.Layout.{offer_limit, count_in, table_end, entries_in, offset_in, length_in, body_in}
use Rattle.bundle_layout.specs.Rows.{first_entry, gap, row_b7, row_b8, is_bad, bad_body}
use Rattle.bundle.specs.Contents.{GoodBody, AcceptedTiles}
use Rattle.bundle.proofs.Limits.{inside}
use Rattle.bundle.proofs.table.Laws.{length_entries}
use Rattle.bundle.proofs.Accepted.{rows_pass}

-- the bodies from a place on, one after the other, are what stands there
tiles : (b : List ℕ) (at k : ℕ) (es : List (List ℕ)) → 0 < k → 1 < k + length es → gap (length b) at k es ≡ 0 → drop at b ≡ flatten (map (body_in b) es)
unfolding gap flatten body_in
tiles b at k [] z l h = go (eqb at (length b)) refl where
  go : (x : Bool) → eqb at (length b) ≡ x → drop at b ≡ []
  go true q = rw (eqb-true at (length b) q) (drop-length b)
  go false q = let w : k - 1 ≡ 0 = rw q at h in absurd (omega arith)
tiles b at k (e ∷ es) z l h = go (eqb (offset_in e) at) refl (λ q. tiles b (offset_in e + length_in e) (suc k) es (omega arith) (omega arith) q) where
  go : (x : Bool) → eqb (offset_in e) at ≡ x → (gap (length b) (offset_in e + length_in e) (suc k) es ≡ 0 → drop (offset_in e + length_in e) b ≡ flatten (map (body_in b) es))
      → drop at b ≡ flatten (map (body_in b) (e ∷ es))
  go true q ih =
      rw (← eqb-true (offset_in e) at q)
      (sym (take-append-drop (length_in e) (drop (offset_in e) b))
      ∙ ap (λ (t : List ℕ). take (length_in e) (drop (offset_in e) b) ++ t) (drop-drop (length_in e) (offset_in e) b ∙ ih (rw q at h)))
  go false q ih = let w : k ≡ 0 = rw q at h in absurd (omega arith)

-- each body parses

good_body : (body : List ℕ) → Bytes body → (p : Parsed) → records_of body ≡ p → is_bad p ≡ false → GoodBody body
good_body body h (whole []) e q = let z : ◌≡◌ {A = ℕ} 0 1 = cc in absurd (omega arith)
good_body body h (whole (r ∷ rs)) e q = record { blocks = r ∷ rs; reads = e; some = omega arith; sound = (reads_written body (r ∷ rs) h e).0 }
good_body body h broken e q = let z : ◌≡◌ {A = ℕ} 0 1 = cc in absurd (omega arith)

good_bodies : (b : List ℕ) (k : ℕ) (es : List (List ℕ)) → Bytes b → 0 < k → first_entry (bad_body b) k es ≡ 0 → All GoodBody (map (body_in b) es)
unfolding first_entry body_in
good_bodies b k [] h z e = tt
good_bodies b k (x ∷ es) h z e = go (bad_body b x) refl (λ q. good_bodies b (suc k) es h (omega arith) q) where
  go : (t : Bool) → bad_body b x ≡ t → (first_entry (bad_body b) (suc k) es ≡ 0 → All GoodBody (map (body_in b) es)) → All GoodBody (map (body_in b) (x ∷ es))
  go true q ih = let w : k ≡ 0 = rw q at e in absurd (omega arith)
  go false q ih =
      let body = take (length_in x) (drop (offset_in x) b) in
      (good_body body (first_bytes (length_in x) (drop (offset_in x) b) (rest_bytes (offset_in x) b h)) (records_of body) refl q, ih (rw q at e))

pub accepted_tiles : AcceptedTiles
unfolding row_b7 row_b8
accepted_tiles b h e =
    let p = rows_pass b e in
    let some = (inside 1 offer_limit (count_in b) p.b3).0 in
    let at = table_end (count_in b) in
    let l = length_entries b in (
      sym (take-append-drop at b) ∙ ap (λ (t : List ℕ). take at b ++ t) (tiles b at 1 (entries_in b) (omega arith) (omega (arith, some)) p.b7),
      good_bodies b 1 (entries_in b) h (omega arith) p.b8,
    )
