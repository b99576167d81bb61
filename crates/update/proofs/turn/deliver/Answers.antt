-- `turn::deliver` meets its contract: by what is sent. Assumes nothing.
use mathlib.Core.Path.{◌≡◌, refl, subst⁻¹}
use native.Mathlib.Omega.{arith}
use borrow.Author.Rules.{rules}
use lib.ListN.{length, take}
use Rattle.device_session.specs.Effect.{no_replies}
use Rattle.device.specs.Entries.{serve_entry, serve_staging}
use Rattle.device.specs.declared.answer.Channel.TheVariants as channel
use Rattle.host_packet.specs.Answer.{sent_by}
use Rattle.host_packet.specs.declared.answer.Sent.{Sent}
use Rattle.update.specs.Run.{channel_of}
use Rattle.update.specs.Turn.{Delivered}
use Rattle.update.proofs.turn.Laws.{first_length, nothing_delivered, answer_delivered}
use Rattle.update.proofs.turn.deliver.Goals as goal

pub slice_bounds-offer-end : goal.slice_bounds-offer-end
slice_bounds-offer-end c =
    let n : length c.args.packet.now ≡ 60 = search rules in
    first_length 16 c.args.packet.now (omega arith)

pub returns-in-Nothing : goal.returns-in-Nothing
returns-in-Nothing c =
    let a = c.args in
    subst⁻¹ (λ (x : Sent). Delivered (sent_by x a.packet.now) a.e a.staging.now c.still.result a.staging.now) c.in-Nothing.is
    (rw c.still.ensures (nothing_delivered a.e a.staging.now no_replies refl))

pub returns-in-Offer : goal.returns-in-Offer
unfolding serve_entry serve_staging
returns-in-Offer c =
    let s = c in
    let a = s.args in
    let p = a.packet.now in
    let n : length p ≡ 60 = search rules in
    let f : channel_of (take 16 p) ≡ channel.Offer = rw (← first_length 16 p (omega arith)) in
    subst⁻¹ (λ (x : Sent). Delivered (sent_by x p) a.e a.staging.now c.answered.result a.staging.now) c.in-Offer.is
    (answer_delivered a.e (take 16 p) a.staging.now a.staging.now channel.Offer c.offer.result no_replies c.answered.result f refl c.offer.ensures c.answered.ensures refl)

pub returns-in-Content : goal.returns-in-Content
unfolding serve_entry serve_staging
returns-in-Content c =
    let s = c in
    let a = s.args in
    let p = a.packet.now in
    let k = c.content in
    let n : length p ≡ 60 = search rules in
    let f : channel_of p ≡ channel.Content = rw n in
    subst⁻¹ (λ (x : Sent). Delivered (sent_by x p) a.e a.staging.now c.answered-in-Content.result k.new.staging) c.in-Content.is
    (answer_delivered a.e p a.staging.now k.new.staging channel.Content k.result no_replies c.answered-in-Content.result f refl k.ensures.0 c.answered-in-Content.ensures k.ensures.1)
