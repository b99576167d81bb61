-- A component that stays leaves the list as it was, and the packet that a session holds after a block. Assumes nothing.
use Rattle.std.proofs.Common.{◌≡◌, ℕ, Bool, true, false, cond, eqb, List, length, set, sym, refl, eqb-true}
use lib.Seq.{set-get_or}
use Rattle.wire.specs.Bytes.{Bytes, Packet}
use Rattle.wire.specs.Codes.{long_size}
use Rattle.wire.proofs.words.Copies.{copy_same}
use Rattle.wire_content.specs.Head.{head_in}
use Rattle.device_component.specs.Lists.{component_at}
use Rattle.device_component.specs.Record.{blank_component}
use Rattle.device_component.specs.declared.record.Component.{Component}
use Rattle.device_session.specs.Effect.{blank_packet}
use Rattle.device_session.specs.declared.effect.Session.{Session}
use Rattle.device_session.proofs.effect.Laws.{blank_fits}
use Rattle.device_receiving.specs.declared.checks.ContentVerdict.{ContentVerdict}
use Rattle.device_receiving.specs.declared.checks.ContentVerdict.TheVariants.{Answer, Take}
use Rattle.device_receiving.specs.Content.{is_last}
use Rattle.device_receiving.specs.Receive.{packet_held, on_block, written, on_verdict, verdict_on, on_content}

-- the component in a slot, put there again
pub kept : (components : List Component) (slot : ℕ) → set components slot (component_at components slot) ≡ components
kept components slot = set-get_or components slot blank_component

-- the packet that is held is the report, where that has the size of a packet
pub packet_held_lem : (report : List ℕ) → length report ≡ long_size → packet_held report ≡ report
packet_held_lem report l = copy_same blank_packet report (sym l)

-- and always as long as a packet, and bytes where the report is
pub held_sized : (report : List ℕ) → length (packet_held report) ≡ long_size
held_sized report = go (eqb long_size (length report)) refl
  where
    go : (b : Bool) → eqb long_size (length report) ≡ b → length (cond b report blank_packet) ≡ long_size
    go true e = sym (eqb-true long_size (length report) e)
    go false e = blank_fits.size

pub held_fits : (report : List ℕ) → Bytes report → Packet long_size (packet_held report)
held_fits report h = record { size = held_sized report; bytes = go (eqb long_size (length report)) }
  where
    go : (b : Bool) → Bytes (cond b report blank_packet)
    go true = h
    go false = blank_fits.bytes

-- the session that a content packet leaves holds as much
module _ (c : Component) (session : Session) (report : List ℕ) (h : length session.previous ≡ long_size) where
  block_sized : (slot : ℕ) (s : List ℕ) → length (on_block c session slot report s).effect.session.previous ≡ long_size
  unfolding on_block
  block_sized slot s = go (is_last (head_in report)) refl
    where
      go : (b : Bool) → is_last (head_in report) ≡ b → length (on_block c session slot report s).effect.session.previous ≡ long_size
      go true e = rw e blank_fits.size
      go false e = rw e (held_sized report)

  pub taken_sized : (s : List ℕ) → length (on_content c session report s).effect.session.previous ≡ long_size
  taken_sized s = go (verdict_on c.fixed.region session report)
    where
      go : (v : ContentVerdict) → length (on_verdict c session report s v).effect.session.previous ≡ long_size
      go (Answer status) = h
      go (Take slot) = block_sized slot (written c.fixed.region report s)
