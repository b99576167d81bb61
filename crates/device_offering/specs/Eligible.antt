-- What an eligible offer is (document 01, "The device"; document 02, A1 and A5): what holds of an offer that none of checks 2 to 7 rejects, each fact under a name.
use Rattle.std.specs.Prelude.{ℕ, ◌≡◌, ◌↔◌, true, false, Some, None}
use Rattle.wire.specs.Checks.{applies}
use Rattle.wire.specs.Codes.{protocol_number}
use Rattle.wire_offer.specs.declared.offer.OfferFields.{OfferFields}
use Rattle.device_component.specs.Versions.{offer_version_fits}
use Rattle.device_slots.specs.declared.standing.Standing.{Standing}
use Rattle.device_offering.specs.Offer.{rejections_at}

pub record Eligible (platform : ℕ) (target : Standing) (o : OfferFields) : Type 0 where
  -- check 2: its protocol is 2
  pub protocol : o.protocol ≡ protocol_number
  -- check 3: its component is on the device, in this slot
  pub slot : ℕ
  pub listed : target.at ≡ Some slot
  -- check 4: it is for this platform
  pub here : o.platform ≡ platform
  -- check 5: its segment is 0
  pub segment : o.segment ≡ 0
  -- check 6: the component has nothing staged
  pub free : target.component.staged ≡ None
  -- the check between 6 and 7, and check 7: its variant is the running one, and its release is greater than the running one's and not below the floor's
  pub version : offer_version_fits target.component o.version ≡ true

-- an offer is eligible exactly where none of checks 2 to 7 rejects it
abbrev pub EligibleIs : Type 0
EligibleIs = (platform : ℕ) (target : Standing) (o : OfferFields) → (applies (rejections_at platform target o) ≡ false) ↔ Eligible platform target o
