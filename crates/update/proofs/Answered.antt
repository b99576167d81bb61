-- What `run` says of its answer: it is the run's, and demand 3 holds of it. Assumes nothing.
use Prim.Native.Nat.{ℕ}
use mathlib.Core.Path.{◌≡◌, sym, ap, subst, ◌∙◌}
use mathlib.Core.List.{List, []}
use Rattle.device.specs.declared.record.Device.{Device}
use Rattle.update.specs.Run.{once, last_of}
use Rattle.update.specs.Answer.{Row, served, row_b, row_d, Ran, refused_by, ended, run_of}
use Rattle.update.specs.Demand.{GoodBodies, Premise, DemandOf}
use Rattle.update.proofs.Demand.{demand_three}

-- a row that refuses
abbrev Refuses : Row → Type 0
Refuses served = ⊥
Refuses (row_b k entry) = Unit {0}
Refuses (row_d k) = Unit {0}

module _ (b : List ℕ) (token : ℕ) (d : Device) (staging : List ℕ) (ran : Ran) where
  -- the answer is the run's, and demand 3 holds of it
  abbrev Answered : Type 0
  Answered = (ran ≡ run_of b token d staging) × DemandOf b token d staging ran

  -- a row refuses
  pub refused_answered : (row : Row) → Refuses row → ran ≡ refused_by row token d staging → run_of b token d staging ≡ refused_by row token d staging → Answered
  refused_answered row r e f = (e ∙ sym f, λ good s. absurd (subst Refuses (sym (ap (λ (x : Ran). x.row) e) ∙ s) r))

  -- none does
  pub served_answered : (GoodBodies b d → Premise b token d staging) → ran ≡ ended (last_of b once token d staging [])
      → run_of b token d staging ≡ ended (last_of b once token d staging []) → Answered
  served_answered premise e f = (e ∙ sym f, λ good s. (e, demand_three b once token d staging [] (premise good)))
