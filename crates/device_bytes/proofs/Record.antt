-- The record's bytes as they are written and read, component by component. Assumes nothing.
use mathlib.Core.Path.{◌≡◌, refl, sym, ap, ◌∙◌}
use mathlib.Core.Bool.{Bool, true, false}
use mathlib.Core.List.{List, [], ◌∷◌, ◌++◌, append_assoc}
use Prim.Native.Nat.{ℕ, ◌+◌, ◌*◌, ◌-◌, ◌<◌, min}
use native.Mathlib.Omega.{arith}
use borrow.Author.Tests.{eq-eqb, lt-ltb, ltb-true, ltb-false, leb-true, leb-false}
use lib.Dec.{ltb, leb}
use lib.ListN.{length, set, take, drop, length-append, get_or-eq_default}
use lib.Seq.{take_all, drop-drop}
use Rattle.wire.specs.Bytes.{bytes_of, bytes_at, copy_of}
use Rattle.wire.specs.Codes.{long_size, component_limit}
use Rattle.wire.proofs.Pieces.{put_more, stored, piece_next, pieces_sized, read_more, read_all, read_sized, read_at, rest, rest_none}
use Rattle.device_component.specs.Lists.{component_at}
use Rattle.device_component.specs.Record.{blank_component}
use Rattle.device_component.specs.declared.record.Component.{Component}
use Rattle.device_component.specs.declared.record.Listed.{Listed}
use Rattle.device_component_bytes.specs.Layout.{component_size, listed_size, component_bytes, component_in, listed_in}
use Rattle.device_component_bytes.proofs.Laws.{component_sized}
use Rattle.device_session_bytes.specs.Layout.{session_size, session_bytes}
use Rattle.device_session_bytes.proofs.Laws.{session_sized}
use Rattle.device.specs.declared.record.Device.{Device}
use Rattle.device_bytes.specs.Layout.{session_start, components_start, device_size, component_start, head_bytes, components_bytes, device_bytes, component_of, components_in, device_in, with_session_bytes, with_component_bytes, list_in}

-- what stands before the session, from the bytes of each field
pub head_of : (d : Device) (p l : List ℕ) → p ≡ bytes_of 2 d.platform → l ≡ bytes_of 4 d.staging_len → bytes_at 2 0 p ++ (bytes_at 4 0 l ++ (d.count ∷ [])) ≡ head_bytes d
head_of d p l e f = rw (e, f)

-- the arrays of a record, as long as their types say
pub record Sized (d : Device) : Type 0 where
  pub slots : length d.components ≡ component_limit
  pub previous : length d.session.previous ≡ long_size

-- with the session, as many bytes as stand before the components
pub head_sized : (d : Device) → Sized d → length (head_bytes d ++ session_bytes d.session) ≡ components_start
head_sized d f = length-append (head_bytes d) (session_bytes d.session) ∙ ap (λ (n : ℕ). session_start + n) (session_sized d.session f.previous)

-- the bytes from a place on, or none where there are fewer
pub rest_least : (n at : ℕ) (b : List ℕ) → at ≡ min n (length b) → take (length b - at) (drop at b) ≡ drop n b
rest_least n at b e = rest at b ∙ go (leb n (length b)) refl
  where
    go : (t : Bool) → leb n (length b) ≡ t → drop at b ≡ drop n b
    go true h = let f : at ≡ n = omega (arith, leb-true n (length b) h) in ap (λ (i : ℕ). drop i b) f
    go false h = rest_none at n b (omega (arith, leb-false n (length b) h)) (omega (arith, leb-false n (length b) h))

-- one component more is written
pub component_written : (out front : List ℕ) (components : List Component) (i : ℕ) → i < component_limit → length components ≡ component_limit → length out ≡ device_size
    → take (component_start i) out ≡ front ++ components_bytes (take i components) → let w = with_component_bytes i (component_at components i) out in
    (length w ≡ device_size) × (take (component_start (i + 1)) w ≡ front ++ components_bytes (take (i + 1) components))
unfolding components_bytes with_component_bytes
component_written out front components i h full whole before =
    let c = component_at components i in
    let e : component_start (i + 1) ≡ component_start i + component_size = omega arith in
    let s = stored out (component_bytes c) (component_start i) component_size (component_sized c) (omega arith) in
    rw (eq-eqb (length out) device_size whole, lt-ltb i component_limit h)
    (s.0 ∙ whole, piece_next component_bytes components_bytes refl (λ x l. refl) out _ front components blank_component i (component_start i) (component_start (i + 1)) (omega arith) before (rw e s.1))

-- all of them are written
pub written : (out front : List ℕ) (components : List Component) (i : ℕ) → i ≡ component_limit → length components ≡ component_limit → length out ≡ device_size
    → take (component_start i) out ≡ front ++ components_bytes (take i components) → out ≡ front ++ components_bytes components
written out front components i e full whole h =
    sym (take_all (component_start i) out (omega arith)) ∙ h ∙ ap (λ (l : List Component). front ++ components_bytes l) (take_all i components (omega arith))

-- what stands before the session is copied to the start
pub head_put : (out h last : List ℕ) (d : Device) (k : ℕ) → k ≡ session_start → length out ≡ device_size → h ≡ head_bytes d → last ≡ copy_of (take k (drop 0 out)) h
    → let w = take 0 out ++ (last ++ drop k (drop 0 out)) in (length w ≡ device_size) × (take session_start w ≡ head_bytes d)
head_put out h last d k e whole f g =
    let put = put_more out h last 0 session_start k e (ap length f) (omega arith) g in (put.0 ∙ whole, put.1 ∙ f)

-- the session is stored behind it, and the components follow
pub device_of_lem : (w : List ℕ) (d : Device) → length d.session.previous ≡ long_size → length w ≡ device_size → take session_start w ≡ head_bytes d
    → take components_start (with_session_bytes d.session w) ++ components_bytes d.components ≡ device_bytes d
unfolding device_bytes with_session_bytes
device_of_lem w d h whole e =
    let s = session_bytes d.session in
    rw (eq-eqb (length w) device_size whole)
    (ap (λ (l : List ℕ). l ++ components_bytes d.components) ((stored w s session_start session_size (session_sized d.session h) (omega arith)).1 ∙ ap (λ (l : List ℕ). l ++ s) e)
    ∙ append_assoc (head_bytes d) s (components_bytes d.components))

-- there are as many as the limit
pub components_full : (q : List ℕ) → length (components_in component_limit q) ≡ component_limit
unfolding components_in
components_full q = read_sized component_size component_in components_in (λ q. refl) (λ n q. refl) component_limit q

-- the component in a slot is the one that is read there, and past the last slot there is none
pub component_in_slot : (b : List ℕ) (slot : ℕ) → length b ≡ device_size → component_of slot b ≡ component_at (device_in b).components slot
unfolding device_in components_in
component_in_slot b slot e = go (ltb slot component_limit) refl
  where
    go : (t : Bool) → ltb slot component_limit ≡ t → component_of slot b ≡ component_at (device_in b).components slot
    go true h =
        rw (eq-eqb (length b) device_size e, h)
        (ap component_in (sym (drop-drop (slot * component_size) components_start b))
        ∙ sym (read_at component_size component_in components_in (λ q. refl) (λ n q. refl) component_limit slot (drop components_start b) blank_component (ltb-true slot component_limit h)))
    go false h = rw (eq-eqb (length b) device_size e, h) (sym (get_or-eq_default (components_in component_limit (drop components_start b)) blank_component {n = slot} (omega (arith, ltb-false slot component_limit h, components_full (drop components_start b)))))

-- one component more is read
pub component_read : (i : ℕ) (b : List ℕ) (l : List Component) (x : Component) → i < component_limit → length l ≡ component_limit → length b ≡ device_size → take i l ≡ components_in i (drop components_start b)
    → x ≡ component_of i b → take (i + 1) (set l i x) ≡ components_in (i + 1) (drop components_start b)
unfolding components_in
component_read i b l x h full whole e f =
    read_more component_size component_in components_in (λ q. refl) (λ n q. refl) i (drop components_start b) l x (omega arith) e
    (f ∙ rw (eq-eqb (length b) device_size whole, lt-ltb i component_limit h) (ap component_in (sym (drop-drop (i * component_size) components_start b))))

-- all of them are read
pub components_read : (i : ℕ) (q : List ℕ) (l : List Component) → i ≡ component_limit → length l ≡ component_limit → take i l ≡ components_in i q → l ≡ components_in component_limit q
unfolding components_in
components_read i q l = read_all component_size component_in components_in (λ q. refl) (λ n q. refl) i component_limit q l

-- one listed component more is read
pub listed_read : (i : ℕ) (q : List ℕ) (l : List Listed) (x : Listed) → i < length l → take i l ≡ list_in i q → x ≡ listed_in (drop (i * listed_size) q) → take (i + 1) (set l i x) ≡ list_in (i + 1) q
unfolding list_in
listed_read i q l x = read_more listed_size listed_in list_in (λ q. refl) (λ n q. refl) i q l x

-- all of them are read
pub list_read : (i : ℕ) (q : List ℕ) (l : List Listed) → i ≡ component_limit → length l ≡ component_limit → take i l ≡ list_in i q → l ≡ list_in component_limit q
unfolding list_in
list_read i q l = read_all listed_size listed_in list_in (λ q. refl) (λ n q. refl) i component_limit q l

-- components are as many bytes as each has
pub components_sized : (cs : List Component) → length (components_bytes cs) ≡ length cs * component_size
unfolding components_bytes
components_sized cs = pieces_sized component_bytes components_bytes refl (λ c l. refl) component_size component_sized cs

-- a record is bytes of the one length
pub device_length : (d : Device) → Sized d → length (device_bytes d) ≡ device_size
unfolding device_bytes
device_length d f =
    let cs = components_bytes d.components in
    ap length (sym (append_assoc (head_bytes d) (session_bytes d.session) cs)) ∙ length-append (head_bytes d ++ session_bytes d.session) cs ∙ omega (arith, head_sized d f, components_sized d.components, f.slots)
