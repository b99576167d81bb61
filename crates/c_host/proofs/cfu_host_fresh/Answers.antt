-- `cfu_host_fresh` meets its contract: C1, or the fresh record. Assumes nothing.
use Rattle.host_bytes.specs.Layout.{host_bytes, host_size}
use Rattle.c_types.specs.Lent.{leaves}
use Rattle.c_types.proofs.lent.Laws.{stored}
use lib.ListN.{length}
use mathlib.Core.Path.{◌≡◌, sym, ap, ◌∙◌}
use Rattle.c_host.specs.Host.{fresh_call}
use borrow.Author.Tests.{eq-eqb, ne_eqb}
use borrow.Author.Rules.{rules}
use Rattle.c_host.proofs.cfu_host_fresh.Goals as goal

pub returns-then-host-ne-HOST_SIZE : goal.returns-then-host-ne-HOST_SIZE
unfolding fresh_call
returns-then-host-ne-HOST_SIZE c = rw (ne_eqb _ _ c.if-host-ne-HOST_SIZE.true)

pub returns : goal.returns
unfolding fresh_call
returns c =
    let q = c.args.host.now in
    let b = c.host_bytes-b in
    let l : length q ≡ host_size = c.if-host-ne-HOST_SIZE.false in
    let m : length b.result ≡ host_size = search rules in
    rw (eq-eqb _ _ l) (stored q b.result 0 c.store.ensures (l ∙ sym m) ∙ ap (leaves 0) (b.ensures ∙ ap host_bytes c.fresh-h.ensures))
