-- `content::write_block` meets its contract: the data stand behind the head's eight bytes. Assumes nothing.
use Rattle.std.proofs.Common.{◌≡◌, ℕ, ◌-◌, min, Bool, true, false, leb, List, length, take, drop, sym, refl, ◌∙◌, arith, length-drop, drop_of_length-le, take_all, leb-false, leb-true}
use Rattle.device_receiving.proofs.content.write_block.Goals.{After-least-at}
use Rattle.device_receiving.proofs.content.write_block.Goals as goal

-- what stands behind the first eight bytes, or behind all where there are fewer
behind : (p : List ℕ) (n : ℕ) → n ≡ min 8 (length p) → take (length p - n) (drop n p) ≡ drop 8 p
behind p n e = take_all (length p - n) (drop n p) (simp length-drop (omega arith)) ∙ go (leb 8 (length p)) refl
  where
    go : (x : Bool) → x ≡ leb 8 (length p) → drop n p ≡ drop 8 p
    go true q = let z : n ≡ 8 = omega (arith, leb-true 8 (length p) (sym q)) in rw z
    go false q =
        let l = leb-false 8 (length p) (sym q) in
        drop_of_length-le p {i = n} (omega (arith, l)) ∙ sym (drop_of_length-le p {i = 8} (omega (arith, l)))

pub returns : goal.returns
returns c =
    let k = (goal.at.returns c).After-least-at in
    let s = k in
    rw (s.requires, behind s.args.report.now k.least-at.result k.least-at.ensures) at c.take_block.ensures
