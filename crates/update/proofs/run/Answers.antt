-- `run` meets its contract: its first row, or the end of the run; and demand 3. Assumes nothing.
use mathlib.Core.Path.{◌≡◌, refl, sym, ap, ◌∙◌}
use mathlib.Core.Bool.{false}
use mathlib.Core.List.{List}
use Prim.Native.Nat.{ℕ, ◌<◌}
use borrow.Author.Tests.{eq-eqb, ne_eqb}
use Rattle.bundle_layout.specs.Rows as rows
use Rattle.bundle.specs.Contents.{Contents}
use Rattle.device.specs.Refusals.{breaks_d1}
use Rattle.host_record.specs.Record.{Reported}
use Rattle.std.proofs.lemmas.Result.{err_from_is_err_and}
use Rattle.bundle.proofs.Told.{check_row}
use Rattle.update.specs.Answer.{served, row_b, row_d, Ran, ended}
use Rattle.update.specs.Demand.{GoodBodies, Premise}
use Rattle.update.proofs.Ranges.{device_fits}
use Rattle.update.proofs.Answers.{bundle_refuses, d1_refuses, d2_refuses, no_row}
use Rattle.update.proofs.Answered.{refused_answered, served_answered}
use borrow.Author.Rules.{rules}
use Rattle.update.proofs.run.Goals.{Else-breaks_d1, Else-staging-device, In_ok-checked, Start}
use Rattle.update.proofs.run.Goals as goal

-- no row refuses the bundle
served_is : (c : In_ok-checked) → rows.bundle_row c.args.bundle.now ≡ rows.served
served_is c = sym (check_row c.args.bundle.now) ∙ sym (ap (λ (x : Contents). x.row) c.in_ok-checked.ensures)

-- D1 does not refuse the device
fine : (c : Else-breaks_d1) → breaks_d1 c.args.device ≡ false
fine c = sym c.breaks_d1.ensures ∙ c.if-breaks_d1.false

-- the token is a byte
small : (c : Start) → c.args.token < 256
small c = search rules

-- demand 3's premise, where the bodies are good: the ranges are those of the parameters' types, and no row refuses
premise : (c : Else-staging-device) → let a = c.args in
    GoodBodies a.bundle.now a.device → Premise a.bundle.now a.token a.device a.staging.now
premise c good = record {
  small = small (goal.at.Else-staging-device c).Start;
  fits = device_fits c.args.device _ c.well_formed.1.1.0;
  bytes = λ i. (c.type_inv.staging i).fits;
  bundle = λ i. (c.type_inv.bundle i).fits;
  d1 = fine (goal.at.Else-staging-device c).Else-breaks_d1;
  d2 = c.if-staging-device.false;
  accepted = served_is (goal.at.Else-staging-device c).In_ok-checked;
  good = good;
}

pub returns-in_err-checked : goal.returns-in_err-checked
returns-in_err-checked c =
    let a = c.args in
    let p = err_from_is_err_and c.from_residual.result c.from_residual.ensures.1 in
    let r = c.in_err-checked.field-0.0 in
    let e : rows.bundle_row a.bundle.now ≡ rows.refusal_row r = sym (check_row a.bundle.now) ∙ sym (ap (λ (x : Contents). x.row) c.in_err-checked.ensures) in
    rw (p.1, p.2) (refused_answered a.bundle.now a.token a.device a.staging.now _ (row_b _ _) tt refl (bundle_refuses a.bundle.now a.token a.device a.staging.now _ _ e))

pub returns-then-breaks_d1 : goal.returns-then-breaks_d1
returns-then-breaks_d1 c =
    let a = c.args in
    refused_answered a.bundle.now a.token a.device a.staging.now _ (row_d 1) tt refl
    (d1_refuses a.bundle.now a.token a.device a.staging.now (served_is (goal.at.returns-then-breaks_d1 c).In_ok-checked) (sym c.breaks_d1.ensures ∙ c.if-breaks_d1.true))

pub returns-then-staging-device : goal.returns-then-staging-device
returns-then-staging-device c =
    let a = c.args in
    refused_answered a.bundle.now a.token a.device a.staging.now _ (row_d 2) tt refl
    (d2_refuses a.bundle.now a.token a.device a.staging.now (served_is (goal.at.returns-then-staging-device c).In_ok-checked) (fine (goal.at.returns-then-staging-device c).Else-breaks_d1) (ne_eqb _ _ c.if-staging-device.true))

pub run_to_end-e-requires : goal.run_to_end-e-requires
run_to_end-e-requires c = (c.in_ok-checked.ensures, served_is (goal.at.run_to_end-e-requires c).In_ok-checked)

pub returns : goal.returns
returns c =
    let a = c.args in
    let k = c.run_to_end-e in
    let e = (goal.at.returns c).Else-staging-device in
    served_answered a.bundle.now a.token a.device a.staging.now _ (premise e)
    (ap (λ (x : Reported). record { row = served; report = x; device = k.result.device; staging = k.new.staging }) c.report.ensures ∙ ap ended (sym k.ensures.2))
    (no_row a.bundle.now a.token a.device a.staging.now (served_is (goal.at.returns c).In_ok-checked) (fine (goal.at.returns c).Else-breaks_d1) (eq-eqb _ _ e.if-staging-device.false))
