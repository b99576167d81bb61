-- The rules that document 02 amends, as values, those of document 01 and those in force: on versions (A1), on the sequence of a block (A4), and on floors,
-- against which versions and set-up's list are tested (A5).
use Rattle.std.specs.Prelude.{ℕ, Bool, false, not, cond, ◌||◌, ◌&&◌, List, [], ◌∷◌, leb, eqb, take, Ok, Err}
use Rattle.wire.specs.Checks.{first_of}
use Rattle.wire.specs.Version.{release_of}
use Rattle.wire.specs.declared.version.Version.{Version}
use Rattle.device_component.specs.Versions as amended
use Rattle.device_component.specs.Setup.{staging_too_long, bad_count, bad_ids, bad_regions, SetupVerdict, setup_verdict}
use Rattle.device_component.specs.declared.record.Component.{Component}
use Rattle.device_component.specs.declared.setup.SetupRow.TheVariants.{S1, S2, S3, S4}
use Rattle.device_session.specs.Stage as stages
use Rattle.device_session.specs.Sound as sound
use Rattle.device_session.specs.declared.stage.Stage.{Stage}
use Rattle.device_session.specs.declared.stage.Stage.TheVariants.{Idle, Offered, Receiving}
use Rattle.device_session.specs.declared.stage.SequenceVerdict.{SequenceVerdict}
use Rattle.device_session.specs.declared.stage.SequenceVerdict.TheVariants.{Next, Wrong}

-- what the check between 6 and 7, check 7, the image judgement and D1 ask of a version, for a component
pub record VersionRules : Type 0 where
  pub wrong_variant : Component → Version → Bool
  pub too_low : Component → Version → Bool
  pub image_fits : Component → Version → Bool
  pub staged_fits : Component → Version → Bool

-- those in force
abbrev pub versions : VersionRules
versions = record {
  wrong_variant = amended.wrong_variant;
  too_low = amended.too_low;
  image_fits = amended.image_version_fits;
  staged_fits = amended.staged_version_fits;
}

-- those of document 01: 32-bit numbers are compared, and no variant is wrong
abbrev pub versions01 : VersionRules
versions01 = record {
  wrong_variant = λ c v. false;
  too_low = λ c v. leb v.0 c.running.0;
  image_fits = λ c v. leb c.running.0 v.0;
  staged_fits = λ c v. leb c.running.0 v.0;
}

-- those of A1, without a floor: releases are compared, and the variant is the running one
abbrev pub versions_a1 : VersionRules
versions_a1 = record {
  wrong_variant = amended.wrong_variant;
  too_low = amended.is_old;
  image_fits = λ c v. not (amended.wrong_variant c v) && leb (release_of c.running) (release_of v);
  staged_fits = λ c v. not (amended.wrong_variant c v) && leb (release_of c.running) (release_of v);
}

-- any of them with A5's floor beside it
abbrev pub with_floor : VersionRules → VersionRules
with_floor r = record {
  wrong_variant = r.wrong_variant;
  too_low = λ c v. r.too_low c v || amended.below_floor c v;
  image_fits = λ c v. r.image_fits c v && not (amended.below_floor c v);
  staged_fits = λ c v. r.staged_fits c v && not (amended.below_floor c v);
}

-- what content check 4 and D1 ask of a sequence: the judgement of a block's, by the stage and whether the packet is a copy of the previous one; and whether the
-- previous packet's is wrong
pub record SequenceRules : Type 0 where
  pub judged : Stage → (copy : Bool) → (sequence : ℕ) → SequenceVerdict
  pub wrong_previous : Stage → (previous : List ℕ) → Bool

-- those in force
abbrev pub sequences : SequenceRules
sequences = record { judged = stages.sequence_verdict; wrong_previous = sound.wrong_previous }

-- those of document 01: while receiving the expected sequence, otherwise any; the held packet is not looked at
abbrev pub expected : Stage → (copy : Bool) → (sequence : ℕ) → SequenceVerdict
expected Idle copy sequence = Next
expected (Offered o) copy sequence = Next
expected (Receiving r) copy sequence = cond (eqb sequence r.next) Next Wrong

abbrev pub sequences01 : SequenceRules
sequences01 = record { judged = expected; wrong_previous = λ stage previous. false }

-- the rows of set-up, for a staging buffer of n bytes and the first `count` of a list: those of document 01, without S5
abbrev pub setup01 : (n count : ℕ) → List Component → SetupVerdict
setup01 n count components =
    first_of (
    (staging_too_long n, Err S1)
    ∷ (bad_count count, Err S2)
    ∷ (bad_ids (take count components), Err S3)
    ∷ (bad_regions n (take count components), Err S4)
    ∷ [])
    (Ok tt)

-- a set of the three
pub record Rules : Type 0 where
  pub versions : VersionRules
  pub sequences : SequenceRules
  pub setup : (n count : ℕ) → List Component → SetupVerdict

-- in force; each request's rules taken back, the others' in force: A5's, A4's, A1's; and by document 01
abbrev pub in_force : Rules
in_force = record { versions = versions; sequences = sequences; setup = setup_verdict }

abbrev pub without_a5 : Rules
without_a5 = record { versions = versions_a1; sequences = sequences; setup = setup01 }

abbrev pub without_a4 : Rules
without_a4 = record { versions = versions; sequences = sequences01; setup = setup_verdict }

abbrev pub without_a1 : Rules
without_a1 = record { versions = with_floor versions01; sequences = sequences; setup = setup_verdict }

abbrev pub document01 : Rules
document01 = record { versions = versions01; sequences = sequences01; setup = setup01 }
