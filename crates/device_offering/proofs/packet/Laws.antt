-- A packet that was read is answered by its kind. Assumes nothing.
use Prim.Native.Nat.{ℕ}
use mathlib.Core.Path.{◌≡◌, refl}
use mathlib.Core.List.{List}
use native.Mathlib.Omega.{arith}
use Rattle.std.specs.Prelude.{Result, Ok, Err}
use Rattle.wire.specs.Rows.{served}
use Rattle.wire.specs.declared.verdict.PacketRefusal.{PacketRefusal}
use Rattle.wire_offer.specs.Kind.{told_read}
use Rattle.wire_offer.specs.declared.kind.OfferPacket.{OfferPacket}
use Rattle.wire_offer.specs.declared.kind.OfferPacket.TheVariants.{Offer, Information, Extended}
use Rattle.device_component.specs.declared.record.Component.{Component}
use Rattle.device_session.specs.declared.effect.Session.{Session}
use Rattle.device_offering.specs.Offer.{offer_verdict, on_offer}
use Rattle.device_offering.specs.Packet.{on_kind, on_packet}

pub read_packet : (platform count : ℕ) (components : List Component) (session : Session) (p : Result OfferPacket PacketRefusal) → (told_read p).row ≡ served
    → on_packet platform count components session p ≡ on_kind platform count components session (told_read p).value
unfolding on_offer offer_verdict
read_packet platform count components session (Err e) h = let z : ◌≡◌ {A = ℕ} 0 1 = cc in absurd (omega arith)
read_packet platform count components session (Ok (Offer o)) h = refl
read_packet platform count components session (Ok (Information s)) h = refl
read_packet platform count components session (Ok (Extended s)) h = refl
