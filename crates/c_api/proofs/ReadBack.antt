-- What C builds, C reads back: by the round trips of each packet. Assumes nothing.
use mathlib.Core.Path.{◌≡◌, refl, sym, ap, ◌∙◌}
use mathlib.Core.Bool.{Bool, true, false, cond}
use mathlib.Core.List.{List}
use Prim.Native.Nat.{ℕ, zero, suc, ◌+◌, ◌*◌, ◌/◌, ◌%◌, ◌-◌, ◌<◌}
use native.Mathlib.Omega.{arith}
use borrow.Author.Tests.{eq-eqb, eqb-true, leb-true}
use lib.Dec.{eqb, leb}
use lib.ListN.{length, replicate}
use Rattle.wire.specs.Rows.{Row, served, row_p, Told}
use Rattle.wire.proofs.Tests.{both, served_true}
use Rattle.wire.proofs.version.Laws.{minor_of_lem}
use Rattle.wire.specs.Codes.{short_size, long_size, packet_data_size, component_limit}
use Rattle.wire_offer.specs.Offer as offer
use Rattle.wire_offer.specs.Signal.{information_bytes, extended_bytes}
use Rattle.wire_offer.specs.Reply as offer_reply
use Rattle.wire_offer.proofs.kind.Laws.{offer_r1, information_r1, extended_r1}
use Rattle.wire_offer.proofs.reply.Laws.{offer_reply_r1}
use Rattle.wire_content.specs.Content as content
use Rattle.wire_content.specs.Content.{cleared}
use Rattle.wire_content.specs.Reply as content_reply
use Rattle.wire_content.proofs.content.Laws.{content_r1}
use Rattle.wire_content.proofs.reply.Laws.{content_reply_r1}
use Rattle.wire_version.specs.Reply as versions
use Rattle.wire_version.specs.declared.VersionReply.{VersionReply}
use Rattle.wire_version.proofs.Laws.{known, version_reply_r1}
use Rattle.c_version.specs.Layout.{running_size, components_size, components_in}
use Rattle.c_version.proofs.Back.{components_write_back, components_all, components_fit, components_first}
use Rattle.c_types.specs.declared.types.CVersion.{CVersion}
use Rattle.c_types.specs.declared.types.COffer.{COffer}
use Rattle.c_types.specs.Version.{parts_of, version_in}
use Rattle.c_types.specs.Numbers.{served_number, wrong_list, wrong_output, packet_number, sized}
use Rattle.c_types.specs.Lent.{Left, leaves}
use Rattle.c_build.specs.Build.{built, is_set, fields_of, flags_fit, build_offer_call, build_information_call, build_extended_call, build_offer_reply_call, build_content_call, build_content_reply_call, build_version_reply_call}
use Rattle.c_read.specs.Read.{flag_of, offer_of, content_by, versions_by, read_version_reply_call, read_offer_call, read_offer_reply_call, read_content_call, read_content_reply_call}
use Rattle.c_api.specs.ReadBack.{FitsCVersion, FitsCOffer, OfferCallsReadBack, ContentCallsReadBack, VersionReplyCallsReadBack, OfferReplyCallsReadBack, ContentReplyCallsReadBack, InformationCallsReadBack, ExtendedCallsReadBack}

-- a call that is served had a buffer of its size, and leaves what it leaves for one
right_size : (buffer packet : List ℕ) (size wrong : ℕ) (right : Left) → 0 < wrong → (sized buffer size (leaves wrong packet) right).number ≡ served_number
    → (length buffer ≡ size) × (sized buffer size (leaves wrong packet) right ≡ right)
right_size buffer packet size wrong right w = go (eqb (length buffer) size) refl
  where
    go : (b : Bool) → eqb (length buffer) size ≡ b → (cond b right (leaves wrong packet)).number ≡ served_number
        → (length buffer ≡ size) × (cond b right (leaves wrong packet) ≡ right)
    go true e h = (eqb-true (length buffer) size e, refl)
    go false e h = absurd (omega arith)

-- no row of P has the number 0
row_served : (row : Row) → packet_number row ≡ served_number → row ≡ served
row_served served h = refl
row_served (row_p k) h = absurd (omega arith)

-- a build that is served left the packet that it tells
built_served : (size : ℕ) (packet : List ℕ) (t : Told (List ℕ)) → (built size packet t).number ≡ served_number → (t.row ≡ served) × ((built size packet t).left ≡ t.value)
built_served size packet t h =
    let e = (right_size packet packet size wrong_output (leaves (packet_number t.row) t.value) (omega arith) h).1 in
    (row_served t.row (sym (ap (λ (l : Left). l.number) e) ∙ h), ap (λ (l : Left). l.left) e)

-- an offer that is served has flags that fit
flags_served : (b : Bool) (t : Told (List ℕ)) → (cond b t (record { row = row_p 2; value = replicate 16 0 })).row ≡ served → b ≡ true
flags_served true t h = refl
flags_served false t h = cc

-- a flag that fits reads back
flag_back : (f : ℕ) → leb f 1 ≡ true → flag_of (is_set f) ≡ f
flag_back zero h = refl
flag_back (suc zero) h = refl
flag_back (suc (suc f)) h = absurd (omega (arith, leb-true (suc (suc f)) 1 h))

-- the parts of a version read back
parts_back : (v : CVersion) → FitsCVersion v → parts_of (version_in v) ≡ v
parts_back v f =
    let n = v.variant + v.minor * 256 + v.major * 16777216 in
    let a : n / 16777216 ≡ v.major = omega arith in
    let b : n / 256 % 65536 ≡ v.minor = minor_of_lem v.major v.minor v.variant f.variant f.minor in
    let c : n % 256 ≡ v.variant = omega arith in simp (a, b, c)

-- the fields of an offer whose flags fit read back
fields_back : (o : COffer) → FitsCOffer o → flags_fit o ≡ true → offer_of (fields_of o) ≡ o
fields_back o f h =
    let k = both (leb o.force_immediate_reset 1) (leb o.force_ignore_version 1) h in
    simp (flag_back o.force_immediate_reset k.0, flag_back o.force_ignore_version k.1, parts_back o.version f.version)

-- they are values of the types of an offer's fields
fields_fit : (o : COffer) → FitsCOffer o → offer.FitsOffer (fields_of o)
fields_fit o f = record {
  segment = f.segment;
  id = f.id;
  token = f.token;
  version = omega arith;
  need = f.need;
  least = f.least;
  protocol = f.protocol;
  platform = f.platform;
}

-- an offer that C builds reads back
pub offer_calls_read_back : OfferCallsReadBack
unfolding build_offer_call read_offer_call
offer_calls_read_back o packet f h =
    let t = offer.build_of (fields_of o) in
    let b = built_served short_size packet (cond (flags_fit o) t (record { row = row_p 2; value = replicate 16 0 })) h in
    let k = flags_served (flags_fit o) t b.0 in
    let e = offer_r1 (fields_of o) (fields_fit o f) (rw k at b.0) in
    rw (b.1, k, e, fields_back o f k)

-- a content packet that C builds reads back
pub content_calls_read_back : ContentCallsReadBack
unfolding build_content_call read_content_call
content_calls_read_back c packet bytes f l h =
    let s = (right_size c.«data» packet packet_data_size wrong_list (built long_size packet (content.build_of c)) (omega arith) h).1 in
    let b = built_served long_size packet (content.build_of c) (rw s at h) in
    rw (eq-eqb (length bytes) packet_data_size l, s, b.1) (ap content_by (content_r1 c f b.0))

-- a version reply that is served is allowed
allowed_served : (r : VersionReply) → (versions.build_of r).row ≡ served → versions.allowed r.count r.protocol ≡ true
unfolding versions.build_of
allowed_served r = served_true (versions.allowed r.count r.protocol) _ _ _

-- a version reply that C builds reads back
pub version_reply_calls_read_back : VersionReplyCallsReadBack
unfolding build_version_reply_call read_version_reply_call cleared
version_reply_calls_read_back count protocol components packet bytes q l h =
    let es = components_in component_limit components in
    let r : VersionReply = record { count = count; protocol = protocol; components = es } in
    let s = right_size components packet components_size wrong_list (built long_size packet (versions.build_of r)) (omega arith) h in
    let b = built_served long_size packet (versions.build_of r) (rw s.1 at h) in
    let k = known count protocol (allowed_served r b.0) in
    let e = version_reply_r1 r (record { count = omega arith; protocol = omega arith; size = components_all components; each = components_fit component_limit components q }) b.0 in
    let z : (component_limit - count) * running_size ≡ length components - count * running_size = omega arith in
    let w = components_first count (component_limit - count) es (omega (arith, components_all components)) in
    rw (eq-eqb (length bytes) components_size l, s.1, b.1) (ap versions_by e ∙ rw (w, z, components_write_back components (record { size = s.0; bytes = q })))

-- a packet without P2 is what its build left, where it was served
short_left : (packet p : List ℕ) → (sized packet short_size (leaves wrong_output packet) (leaves served_number p)).number ≡ served_number
    → (sized packet short_size (leaves wrong_output packet) (leaves served_number p)).left ≡ p
short_left packet p h = ap (λ (l : Left). l.left) (right_size packet packet short_size wrong_output (leaves served_number p) (omega arith) h).1

-- an offer reply that C builds reads back
pub offer_reply_calls_read_back : OfferReplyCallsReadBack
unfolding build_offer_reply_call read_offer_reply_call
offer_reply_calls_read_back r packet f h = rw (short_left packet (offer_reply.reply_bytes r) h, offer_reply_r1 r f)

-- so does a content reply
pub content_reply_calls_read_back : ContentReplyCallsReadBack
unfolding build_content_reply_call read_content_reply_call
content_reply_calls_read_back r packet f h = rw (short_left packet (content_reply.reply_bytes r) h, content_reply_r1 r f)

-- information
pub information_calls_read_back : InformationCallsReadBack
unfolding build_information_call read_offer_call
information_calls_read_back s packet f h = rw (short_left packet (information_bytes s) h, information_r1 s f)

-- and extended
pub extended_calls_read_back : ExtendedCallsReadBack
unfolding build_extended_call read_offer_call
extended_calls_read_back s packet f h = rw (short_left packet (extended_bytes s) h, extended_r1 s f)
