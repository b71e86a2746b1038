use Rattle.std.proofs.Common.{◌≡◌, ℕ, Option, rules}
use Rattle.std.specs.Array.Iter.{array_steps, array_into_iter_items}
use Rattle.std.specs.Option.{option_map, option_to_list}
use Rattle.std.proofs.lemmas.Iterator.Consumers.{YieldsList-from_shown, YieldsList-at, nth_from_yields_List}
use Rattle.std.proofs.lemmas.Iterator.Adapters.{YieldsList-from_once, YieldsList-from_flatten}
use Rattle.grid.proofs.Listing.{nth_flat}
use Rattle.grid.proofs.sides.nth_present.Goals as goal

pub returns : goal.returns
returns c =
    let numbered : c.map.result ≡ option_map (λ r. record { 0 = r }) c.nth.result = search rules in
    let source = YieldsList-at c.flatten.ensures.source
    (YieldsList-from_shown array_steps (λ (x : Option ℕ). x) array_into_iter_items (λ s t h. h.0) (λ s x t e. e) c.into_iter.result) in
    let chain = YieldsList-from_flatten _ _ (λ (x : ℕ). x) option_to_list (λ x j b. YieldsList-from_once x b.0)
    source c.flatten.ensures.front c.flatten.ensures.back c.flatten.ensures.done in
    let found = nth_from_yields_List c.nth.result c.nth.new.self c.args.j c.nth.ensures.ran chain in
    nth_flat c.args.numbers c.args.j c.nth.result c.map.result (rw c.into_iter.ensures.into_iter_gives.0 at found) numbered
