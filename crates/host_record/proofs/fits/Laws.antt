-- A record that N1 does not refuse meets what deciding requires. Assumes nothing.
use mathlib.Core.Path.{◌≡◌}
use mathlib.Core.Bool.{false}
use Prim.Native.Nat.{ℕ, ◌^◌, ◌<◌}
use native.Mathlib.Omega.{arith}
use borrow.Author.Tests.{ltb-false, leb-false}
use lib.Dec.{leb, ltb}
use Rattle.wire.proofs.Tests.{neither}
use Rattle.bundle_layout.specs.Layout.{offer_limit}
use Rattle.host_record.specs.Spare.{Spare, SpareIn, SpareCounts}
use Rattle.host_record.specs.Fits.{busy_limit, packet_limit, turn_breaks, place_breaks, stage_breaks, record_breaks}
use Rattle.host_record.specs.declared.record.Host.{Host}
use Rattle.host_record.specs.declared.record.Turn.{Turn}
use Rattle.host_record.specs.declared.record.Place.{Place}
use Rattle.host_record.specs.declared.record.HostStage.{HostStage}
use Rattle.host_record.specs.declared.record.HostStage.TheVariants.{Fresh, Opening, Listing, Offering, Waiting, Sending, Closing, Ended}

module _ (n k : ℕ) (few : n < 256) (fits : k < 2 ^ 32) where
  -- an offer in hand
  turn_room : (t : Turn) → turn_breaks n t ≡ false → Spare t.entry
  turn_room t h = omega (arith, leb-false n t.entry (neither (leb n t.entry) (ltb busy_limit t.busy) h).0)

  -- a block in hand
  place_room : (p : Place) → place_breaks n k p ≡ false → (p.entry < 32) × Spare p.block
  place_room p h =
      let q = neither (leb offer_limit p.entry) (leb k p.block) (neither (leb n p.entry) _ h).1 in
      (omega (arith, leb-false offer_limit p.entry q.0), omega (arith, leb-false k p.block q.1))

  stage_spare : (s : HostStage) → stage_breaks n k s ≡ false → SpareIn s
  stage_spare Fresh h = tt
  stage_spare Opening h = tt
  stage_spare Listing h = tt
  stage_spare (Offering t) h = turn_room t h
  stage_spare (Waiting t) h = turn_room t h
  stage_spare (Sending a) h = place_room a.place h
  stage_spare Closing h = tt
  stage_spare (Ended e) h = tt

  -- a record, over a bundle of fewer than 256 offers where the body in hand has fewer than 2^32 records
  pub room : (h : Host) → record_breaks n k h ≡ false → SpareCounts h × SpareIn h.stage
  room h e =
      let p = neither (stage_breaks n k h.stage) _ e in
      let q = neither (ltb n h.passes) _ p.1 in
      let r = neither (leb packet_limit h.packets) (leb (2 ^ n) h.mask) q.1 in
      let a = ltb-false n h.passes q.0 in
      let b = leb-false packet_limit h.packets r.0 in ((omega arith, omega arith), stage_spare h.stage p.0)
