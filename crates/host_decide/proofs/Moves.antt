-- What a host may do on a reply, by its stage: a fact of every move that the table allows is a fact of the move that is decided. Assumes nothing.
use mathlib.Core.Path.{◌≡◌, refl}
use mathlib.Core.Bool.{Bool, true, false, not, cond, ◌&&◌}
use mathlib.Core.List.{List, []}
use Prim.Native.Nat.{ℕ, zero, suc, ◌+◌, ◌≤◌, ◌<◌}
use native.Mathlib.Omega.{arith}
use borrow.Author.Tests.{ltb-true, leb-true, not-true}
use lib.Dec.{ltb, leb, eqb}
use lib.ListN.{length, get_or}
use Rattle.wire.specs.Codes.{success_status, info_end_offer_list}
use Rattle.wire.proofs.Tests.{both}
use Rattle.wire_offer.specs.Reply as offer_reply
use Rattle.wire_content.specs.Reply.{reply_in}
use Rattle.wire_content.specs.declared.reply.ContentReply.{ContentReply}
use Rattle.host_decide.specs.Decide as host
use Rattle.host_record.specs.Fits.{busy_limit}
use Rattle.host_table.specs.Table.{table, class_of}
use Rattle.host_record.specs.Record.{sequence_of}
use Rattle.host_decide.specs.Decide.{sends, ends, list, offer_from, noted, completes, replays, send_block, act, no_turn, foreign_offer, hears, repeats_taken, pass_over, goes_on, hears_block}
use Rattle.host_record.specs.declared.record.Host.{Host}
use Rattle.host_record.specs.declared.record.Turn.{Turn}
use Rattle.host_record.specs.declared.record.Place.{Place}
use Rattle.host_record.specs.declared.record.Awaited.{Awaited}
use Rattle.host_record.specs.declared.record.HostStage.TheVariants.{Offering, Waiting, Closing}
use Rattle.host_record.specs.declared.record.End.{End}
use Rattle.host_record.specs.declared.record.End.TheVariants.{Foreign, Status}
use Rattle.host_decide.specs.declared.Action.TheVariants.{Information, Notify, Offer}
use Rattle.host_decide.specs.declared.Move.{Move}

-- a fact of both sides of a test
pub by_test : {A : Type 0} (Q : A → Type 0) (t : Bool) (x y : A) → (t ≡ true → Q x) → (t ≡ false → Q y) → Q (cond t x y)
by_test Q true x y f g = f refl
by_test Q false x y f g = g refl

-- a fact of each column
by_class : (Q : ℕ → Type 0) → Q 0 → Q 1 → Q 2 → Q 3 → Q 4 → Q 5 → (status : ℕ) → Q (class_of status)
by_class Q q0 q1 q2 q3 q4 q5 status = go status (ltb status 5) refl
  where
    go : (s : ℕ) (t : Bool) → ltb s 5 ≡ t → Q (cond t s 5)
    go s false e = q5
    go zero true e = q0
    go (suc zero) true e = q1
    go (suc (suc zero)) true e = q2
    go (suc (suc (suc zero))) true e = q3
    go (suc (suc (suc (suc zero)))) true e = q4
    go (suc (suc (suc (suc (suc s))))) true e = absurd (omega (arith, ltb-true (suc (suc (suc (suc (suc s))))) 5 e))

-- the reply to a block shows that it was taken: 16 bytes, our sequence, status 0
abbrev pub is_taken : Place → (reply : List ℕ) → Bool
is_taken p reply = eqb (length reply) 16 && (eqb (reply_in reply).sequence (sequence_of p.block) && eqb (reply_in reply).status success_status)

-- the offer of an entry, or code 2
pub offer_cases : (Q : Move → Type 0) (n entry : ℕ) (h : Host)
    → (entry < n → Q (sends h (Offering (record { entry = entry; busy = 0 })) (Offer entry)))
    → Q (sends h Closing (Information info_end_offer_list))
    → Q (offer_from n entry h)
offer_cases Q n entry h f g = by_test Q (ltb entry n) _ _ (λ e. f (ltb-true entry n e)) (λ e. g)

-- the step that the table has in a row and a column
abbrev step : (row column : ℕ) → ℕ
step row column = get_or (get_or table row []) column 0

module _ (Q : Move → Type 0) (n : ℕ) (h : Host) (reply : List ℕ) (stops : (e : End) → Q (ends h e)) where
  -- H2, or a step of the row
  hears_cases : (row : ℕ) (t : Turn) → ((s : ℕ) → Q (act (step row 0) n t s h)) → ((s : ℕ) → Q (act (step row 1) n t s h))
      → ((s : ℕ) → Q (act (step row 2) n t s h)) → ((s : ℕ) → Q (act (step row 3) n t s h)) → ((s : ℕ) → Q (act (step row 4) n t s h))
      → ((s : ℕ) → Q (act (step row 5) n t s h)) → Q (hears row n t h reply)
  unfolding hears
  hears_cases row t q0 q1 q2 q3 q4 q5 =
      by_test Q (foreign_offer h reply) _ _ (λ e. stops Foreign)
      (λ e. by_class (λ c. Q (act (step row c) n t (offer_reply.reply_in reply).status h)) (q0 _) (q1 _) (q2 _) (q3 _) (q4 _) (q5 _)
      (offer_reply.reply_in reply).status)

  -- the reply to code 0
  pub opening_cases : Q (list h) → Q (hears 0 n no_turn h reply)
  unfolding act table
  opening_cases f = hears_cases 0 no_turn (λ s. stops _) (λ s. f) (λ s. stops _) (λ s. stops _) (λ s. stops _) (λ s. stops _)

  -- the reply to code 1
  pub listing_cases : Q (offer_from n 0 h) → Q (hears 1 n no_turn h reply)
  unfolding act table
  listing_cases f = hears_cases 1 no_turn (λ s. stops _) (λ s. f) (λ s. stops _) (λ s. stops _) (λ s. stops _) (λ s. stops _)

  -- the reply to an offer
  pub offering_cases : (t : Turn)
      → Q (send_block (record { entry = t.entry; block = 0 }) h)
      → ((s : ℕ) → Q (offer_from n (t.entry + 1) (noted h s)))
      → (t.busy < busy_limit → Q (sends h (Waiting (record { entry = t.entry; busy = t.busy + 1 })) Notify))
      → Q (hears 2 n t h reply)
  unfolding act table
  offering_cases t send next wait =
      hears_cases 2 t next (λ s. send) next
      (λ s. by_test Q (ltb t.busy busy_limit) _ _ (λ e. wait (ltb-true _ _ e)) (λ e. stops _))
      (λ s. stops _) (λ s. stops _)

  -- the reply to notify on ready
  pub waiting_cases : (t : Turn) → Q (sends h (Offering t) (Offer t.entry)) → Q (hears 3 n t h reply)
  unfolding act table
  waiting_cases t f = hears_cases 3 t (λ s. stops _) (λ s. stops _) (λ s. stops _) (λ s. stops _) (λ s. f) (λ s. stops _)

  -- the reply to code 2
  pub closing_cases : (replays n h ≡ true → Q (list h)) → Q (hears 4 n no_turn h reply)
  unfolding act table
  closing_cases f =
      hears_cases 4 no_turn (λ s. stops _) (λ s. by_test Q (replays n h) _ _ f (λ e. stops _)) (λ s. stops _) (λ s. stops _) (λ s. stops _) (λ s. stops _)

-- a reply is passed over only past block 0, and only once
repeated : (a : Awaited) (r : ContentReply) → repeats_taken a r ≡ true → (1 ≤ a.place.block) × (a.passed ≡ false)
repeated a r e =
    let w = both (leb 1 a.place.block) (not a.passed) (both _ _ e).0 in (leb-true 1 a.place.block w.0, not-true a.passed w.1)

-- the reply to a block
pub sending_cases : (Q : Move → Type 0) (n : ℕ) (last : Bool) (a : Awaited) (h : Host) (reply : List ℕ)
    → (is_taken a.place reply ≡ false → (e : End) → Q (ends h e))
    → (1 ≤ a.place.block → a.passed ≡ false → Q (pass_over a.place h))
    → (is_taken a.place reply ≡ true → last ≡ true → Q (offer_from n (a.place.entry + 1) (completes h a.place.entry)))
    → (is_taken a.place reply ≡ true → last ≡ false → Q (send_block (record { entry = a.place.entry; block = a.place.block + 1 }) h))
    → Q (hears_block n last a h reply)
unfolding hears_block
sending_cases Q n last a h reply stops passes ends goes =
    let r = reply_in reply in
    go (eqb (length reply) 16) (repeats_taken a r) (eqb r.sequence (sequence_of a.place.block)) (eqb r.status success_status) last stops
    (λ e. let w = repeated a r e in passes w.0 w.1)
    ends goes
  where
    go : (x t y z last : Bool)
        → ((x && (y && z)) ≡ false → (e : End) → Q (host.ends h e))
        → (t ≡ true → Q (pass_over a.place h))
        → ((x && (y && z)) ≡ true → last ≡ true → Q (offer_from n (a.place.entry + 1) (completes h a.place.entry)))
        → ((x && (y && z)) ≡ true → last ≡ false → Q (send_block (record { entry = a.place.entry; block = a.place.block + 1 }) h))
        → Q (cond (not x) (host.ends h Foreign)
        (cond t (pass_over a.place h)
        (cond (not y) (host.ends h Foreign) (cond z (goes_on n last a.place h) (host.ends h (Status (reply_in reply).status))))))
    go false t y z last f o g k = f refl Foreign
    go true true y z last f o g k = o refl
    go true false false z last f o g k = f refl Foreign
    go true false true false last f o g k = f refl _
    go true false true true true f o g k = g refl refl
    go true false true true false f o g k = k refl refl
