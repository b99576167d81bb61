-- The values of a session stay those of its type. Assumes nothing.
use Rattle.std.proofs.Common.{ℕ, zero, suc, ◌<◌, List, replicate, refl, arith, Option}
use Rattle.wire.specs.Bytes.{Bytes, Packet}
use Rattle.wire.specs.Codes.{long_size}
use Rattle.device_session.specs.Stage.{FitsStage}
use Rattle.device_session.specs.Owed.{FitsOwed}
use Rattle.device_session.specs.Effect.{FitsSession, blank_packet, idle, in_stage, owing}
use Rattle.device_session.specs.declared.stage.Stage.{Stage}
use Rattle.device_session.specs.declared.effect.Session.{Session}

-- n times a byte
pub replicate_bytes : (n b : ℕ) → b < 256 → Bytes (replicate n b)
replicate_bytes zero b h i = omega arith
replicate_bytes (suc n) b h zero = h
replicate_bytes (suc n) b h (suc i) = replicate_bytes n b h i

-- no packet has the size of one
pub blank_fits : Packet long_size blank_packet
blank_fits = record { size = refl; bytes = replicate_bytes long_size 0 (omega arith) }

pub idle_fits : FitsSession idle
idle_fits = record { stage = tt; owed = tt; size = blank_fits.size; bytes = blank_fits.bytes }

pub stage_fits : (s : Session) (stage : Stage) (previous : List ℕ) → FitsSession s → FitsStage stage → Packet long_size previous
    → FitsSession (in_stage s stage previous)
stage_fits s stage previous f h p = record { stage = h; owed = f.owed; size = p.size; bytes = p.bytes }

pub owing_fits : (s : Session) (owed : Option ℕ) → FitsSession s → FitsOwed owed → FitsSession (owing s owed)
owing_fits s owed f h = record { stage = f.stage; owed = h; size = f.size; bytes = f.bytes }
