-- `staged_fit` meets its contract: the flag in each slot. Assumes nothing.
use Rattle.std.proofs.Common.{ℕ, drop, refl, ◌∙◌, rules}
use Rattle.std.proofs.lemmas.Iterator.{YieldsList-from_range}
use Rattle.std.proofs.lemmas.Iterator.Search.{all_from_yields_List}
use Rattle.wire.specs.Codes.{component_limit}
use Rattle.wire.proofs.Pieces.{rest}
use Rattle.device_component_bytes.specs.Layout.{staged_flag_fits}
use Rattle.device_bytes.specs.Layout.{component_start}
use Rattle.device_bytes.proofs.Flags.{all_staged}
use Rattle.device_bytes.proofs.staged_fit.Goals as goal

pub returns : goal.returns
returns c =
    let b = c.args.b.now in
    let test = λ (i : ℕ). staged_flag_fits (drop (component_start i) b) in
    all_from_yields_List test _ _ c.all.result c.all.ensures.ran (YieldsList-from_range 0 component_limit component_limit (cc) refl) (λ i x q k. search (rules, rest)) ∙ all_staged b 0 component_limit
