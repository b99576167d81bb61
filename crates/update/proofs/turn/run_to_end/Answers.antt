-- `turn::run_to_end` meets its contract. The loop's invariant: the run has come to these ends. The measure: the turns that are left. Assumes nothing.
use mathlib.Core.Path.{◌≡◌, refl, sym, ap, subst⁻¹, ◌∙◌}
use Prim.Native.Nat.{ℕ, ◌<◌}
use native.Mathlib.Omega.{arith}
use borrow.Author.Rules.{rules}
use lib.ListN.{length}
use Rattle.bundle_layout.specs.Layout.{offer_limit}
use Rattle.host_record.specs.Fits.{body_on, in_hand}
use Rattle.update.proofs.turn.Laws.{TurnedOn, turned_on, within_table, reached_start, turn_less, reached_turn, reached_end}
use Rattle.update.proofs.turn.run_to_end.Goals.{After-in_hand, After-turn-e, Start}
use Rattle.update.proofs.turn.run_to_end.Goals as goal

-- the token is a byte
small : (c : Start) → c.args.token < 256
small c = search rules

-- the entry in hand is the host's
hand_is : (c : After-in_hand) → c.in_hand.result ≡ in_hand c.loop-checked.e.host.stage
hand_is c = c.in_hand.ensures

-- and one of the table
hand_within : (c : After-in_hand) → c.in_hand.result < offer_limit
hand_within c =
    let l = c.loop-checked in
    subst⁻¹ (λ (n : ℕ). n < offer_limit) (hand_is c)
    (within_table c.args.bundle.now (λ i. (c.type_inv.bundle i).fits) c.requires.1 l.e.host l.invariant.0.ready)

-- the turn of the loop, with the body in hand
turned : (c : After-turn-e) → let l = c.loop-checked in
    TurnedOn c.args.bundle.now l.e l.staging c.turn-e.result c.turn-e.new.staging
turned c =
    let s = c in
    let l = c.loop-checked in
    turned_on s.args.bundle.now l.e s.args.checked c.body_of.result l.staging c.turn-e.result c.turn-e.new.staging s.requires.0
    (c.body_of.ensures ∙ ap (body_on s.args.checked.table) (hand_is (goal.at.After-turn-e c).After-in_hand)) c.turn-e.ensures

pub loop-checked-init : goal.loop-checked-init
loop-checked-init c =
    let s = (goal.at.loop-checked-init c).Start in
    let a = s.args in
    let f = c.fresh-host in (
      reached_start a.bundle.now a.token a.device a.staging.now (λ i. (c.type_inv.bundle i).fits) s.requires.1 (small s)
          f.result c.none-replies.result 0 f.ensures c.none-replies.ensures,
      refl,
    )

pub loop-checked-smaller : goal.loop-checked-smaller
loop-checked-smaller c =
    let s = (goal.at.loop-checked-smaller c).Start in
    let a = s.args in
    let l = c.loop-checked in
    let t = (goal.at.loop-checked-smaller c).After-turn-e in
    let h = c.has_ended in
    turn_less a.bundle.now a.token a.device a.staging.now (λ i. (c.type_inv.bundle i).fits) s.requires.1 (small s)
    l.e t.turn-e.result l.staging t.turn-e.new.staging l.invariant.0.ready l.invariant.0.cursor (turned t)
    (sym h.ensures ∙ c.loop-checked-test.true)

pub loop-checked-preserved : goal.loop-checked-preserved
loop-checked-preserved c =
    let s = (goal.at.loop-checked-preserved c).Start in
    let a = s.args in
    let l = c.loop-checked in
    let t = (goal.at.loop-checked-preserved c).After-turn-e in
    let h = c.has_ended in
    let w : length t.turn-e.new.staging ≡ length l.staging = search rules in (
      reached_turn a.bundle.now a.token a.device a.staging.now (λ i. (c.type_inv.bundle i).fits) s.requires.1 (small s)
          l.e t.turn-e.result l.staging t.turn-e.new.staging l.invariant.0
          (sym h.ensures ∙ c.loop-checked-test.true) (turned t),
      w ∙ l.invariant.1,
    )

pub shape_of-staging : goal.shape_of-staging
shape_of-staging c = c.loop-checked.invariant.1

pub returns : goal.returns
returns c =
    let s = (goal.at.returns c).Start in
    let a = s.args in
    let l = c.loop-checked in
    let h = c.has_ended in
    reached_end a.bundle.now a.token a.device a.staging.now (λ i. (c.type_inv.bundle i).fits) s.requires.1 (small s)
    l.e l.staging l.invariant.0 (sym h.ensures ∙ c.loop-checked-test.false)

pub offset_bounds-table-in_hand : goal.offset_bounds-table-in_hand
offset_bounds-table-in_hand c = omega (arith, hand_within c)

pub bounds-table-in_hand : goal.bounds-table-in_hand
bounds-table-in_hand c = hand_within c
