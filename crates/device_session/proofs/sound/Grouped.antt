-- D1 in another order: the tests of each component, and of each two, in one walk. Assumes nothing.
use Rattle.std.proofs.Common.{◌≡◌, ℕ, Bool, true, false, not, ◌||◌, eqb, List, [], ◌∷◌, take, sym, refl, ap, ◌∙◌, ap₂, Ok, Err}
use Rattle.wire.specs.Checks.{first_of, any, pairs}
use Rattle.device_component.specs.Versions.{keeps_staged}
use Rattle.device_component.specs.Setup.{is_refused, staging_too_long, bad_count, bad_id, bad_ids, bad_region, bad_regions, bad_floor, bad_floors, overlap, setup_verdict}
use Rattle.device_component.specs.Rules.{unsound}
use Rattle.device_component.specs.declared.record.Component.{Component}
use Rattle.device_component.specs.declared.setup.SetupRow.TheVariants.{S1, S2, S3, S4, S5}
use Rattle.device_session.specs.declared.effect.Session.{Session}
use Rattle.device_session.specs.Sound.{opens_wrong, holds_wrong, owes_idle, breaks_d1}

-- two tests of each member, one after the other
exchange : (a b x y : Bool) → ((a || b) || (x || y)) ≡ ((a || x) || (b || y))
exchange true b x y = refl
exchange false true true y = refl
exchange false true false y = refl
exchange false false x y = refl

module _ {A : Type 0} where
  any_or : (p q : A → Bool) (l : List A) → any (λ x. p x || q x) l ≡ (any p l || any q l)
  unfolding any
  any_or p q [] = refl
  any_or p q (x ∷ l) = rw (any_or p q l) (exchange (p x) (q x) (any p l) (any q l))

  pairs_or : (p q : A → A → Bool) (l : List A) → pairs (λ x y. p x y || q x y) l ≡ (pairs p l || pairs q l)
  unfolding pairs
  pairs_or p q [] = refl
  pairs_or p q (x ∷ l) = rw (any_or (p x) (q x) l, pairs_or p q l) (exchange (any (p x) l) (any (q x) l) (pairs p l) (pairs q l))

-- set-up's rows, as tests
refuses : (t k x y f : Bool) → is_refused (first_of ((t, Err S1) ∷ (k, Err S2) ∷ (x, Err S3) ∷ (y, Err S4) ∷ (f, Err S5) ∷ []) (Ok tt)) ≡ (t || (k || ((x || y) || f)))
unfolding first_of
refuses true k x y f = refl
refuses false true x y f = refl
refuses false false true y f = refl
refuses false false false true f = refl
refuses false false false false true = refl
refuses false false false false false = refl

-- the tests of each and of each two, in either order
together : (a d b e f s : Bool) → ((((a || d) || (b || e)) || f) || s) ≡ ((a || (b || (f || s))) || (d || e))
together true d b e f s = refl
together false true true e f s = refl
together false true false e true s = refl
together false true false e false true = refl
together false true false e false false = refl
together false false true e f s = refl
together false false false true true s = refl
together false false false true false true = refl
together false false false true false false = refl
together false false false false true s = refl
together false false false false false true = refl
together false false false false false false = refl

-- the last test with the first ones, or after the others
after : (t k x w p o s : Bool) → ((t || (k || x)) || (w || (p || (o || s)))) ≡ ((t || k) || (w || (p || (o || (x || s)))))
after true k x w p o s = refl
after false true x w p o s = refl
after false false true true p o s = refl
after false false true false true o s = refl
after false false true false false true s = refl
after false false true false false false s = refl
after false false false w p o s = refl

module _ (n : ℕ) where
  -- flawed components and two that clash: S3, S4, S5 and what is staged
  unsound_as : (cs : List Component) → (((bad_ids cs || bad_regions n cs) || bad_floors cs) || any (λ c. not (keeps_staged c c.staged)) cs) ≡ unsound n cs
  unfolding bad_ids bad_regions unsound
  unsound_as cs =
      together (any (λ c. bad_id c.fixed.id) cs) (pairs (λ c c'. eqb c.fixed.id c'.fixed.id) cs) (any (λ c. bad_region n c.fixed.region) cs) (pairs (λ c c'. overlap c.fixed.region c'.fixed.region) cs) (bad_floors cs) (any (λ c. not (keeps_staged c c.staged)) cs)
      ∙ sym (ap₂ (λ (a b : Bool). a || b)
      (any_or (λ c. bad_id c.fixed.id) (λ c. bad_region n c.fixed.region || (bad_floor c.fixed.floor || not (keeps_staged c c.staged))) cs
      ∙ ap (λ (b : Bool). any (λ c. bad_id c.fixed.id) cs || b)
      (any_or (λ c. bad_region n c.fixed.region) (λ c. bad_floor c.fixed.floor || not (keeps_staged c c.staged)) cs
      ∙ ap (λ (b : Bool). any (λ c. bad_region n c.fixed.region) cs || b) (any_or (λ c. bad_floor c.fixed.floor) (λ c. not (keeps_staged c c.staged)) cs)))
      (pairs_or (λ c c'. eqb c.fixed.id c'.fixed.id) (λ c c'. overlap c.fixed.region c'.fixed.region) cs))

  -- D1
  pub grouped : (count : ℕ) (components : List Component) (session : Session) → breaks_d1 n count components session
      ≡ ((staging_too_long n || bad_count count) || (opens_wrong count components session || (holds_wrong session || (owes_idle session || unsound n (take count components)))))
  unfolding breaks_d1 setup_verdict
  grouped count components session =
      rw (refuses (staging_too_long n) (bad_count count) (bad_ids (take count components)) (bad_regions n (take count components)) (bad_floors (take count components)))
      (after (staging_too_long n) (bad_count count) ((bad_ids (take count components) || bad_regions n (take count components)) || bad_floors (take count components)) (opens_wrong count components session) (holds_wrong session) (owes_idle session) (any (λ c. not (keeps_staged c c.staged)) (take count components))
      ∙ rw (unsound_as (take count components)))
