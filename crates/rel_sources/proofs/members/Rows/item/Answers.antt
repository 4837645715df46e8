use Rattle.std.proofs.Common.{◌≡◌, ◌+◌, ◌<◌, ◌∷◌, length, get_or, drop, map, sym, ap, ◌∙◌, rules}
use Rattle.rel_sources.specs.Rows.{process_item, package_item, setting_item}
use Rattle.rel_sources.specs.Draws.{item_in}
use Rattle.rel_sources.specs.Members.{row_items}
use Rattle.rel_sources.proofs.Listed.{ok-more, member-at}
use Rattle.rel_sources.proofs.members.Rows.item.Goals as goal

pub returns-in_ok-get-in-Processes-clause-at : goal.returns-in_ok-get-in-Processes-clause-at
returns-in_ok-get-in-Processes-clause-at c =
    let w = c.args.wanted.now in
    let items = row_items w c.args.self.now in
    let xs = c.as_slice.result.now in
    let x = c.in_ok-get-in-Processes.field-0.now in
    let below : c.args.at < length xs = search rules in
    let is : x ≡ get_or xs c.args.at x = search rules in
    let all : items ≡ map (process_item w) xs = ap (row_items w) c.in-Processes.is ∙ ap (map (process_item w)) (sym c.as_slice.ensures) in
    ok-more c.process_item.result (λ held. item_in held ≡ process_item w x) (λ held. drop c.args.at items ≡ item_in held ∷ drop (c.args.at + 1) items)
    (λ held same. member-at items (process_item w) xs c.args.at x (item_in held) all below is same) c.process_item.ensures

pub returns-in_ok-get-in-Packages-clause-at : goal.returns-in_ok-get-in-Packages-clause-at
returns-in_ok-get-in-Packages-clause-at c =
    let w = c.args.wanted.now in
    let items = row_items w c.args.self.now in
    let xs = c.as_slice-in-Packages.result.now in
    let x = c.in_ok-get-in-Packages.field-0.now in
    let below : c.args.at < length xs = search rules in
    let is : x ≡ get_or xs c.args.at x = search rules in
    let all : items ≡ map (package_item w) xs = ap (row_items w) c.in-Packages.is ∙ ap (map (package_item w)) (sym c.as_slice-in-Packages.ensures) in
    ok-more c.package_item.result (λ held. item_in held ≡ package_item w x) (λ held. drop c.args.at items ≡ item_in held ∷ drop (c.args.at + 1) items)
    (λ held same. member-at items (package_item w) xs c.args.at x (item_in held) all below is same) c.package_item.ensures

pub returns-in_ok-get-in-Settings-clause-at : goal.returns-in_ok-get-in-Settings-clause-at
returns-in_ok-get-in-Settings-clause-at c =
    let w = c.args.wanted.now in
    let items = row_items w c.args.self.now in
    let xs = c.as_slice-in-Settings.result.now in
    let x = c.in_ok-get-in-Settings.field-0.now in
    let below : c.args.at < length xs = search rules in
    let is : x ≡ get_or xs c.args.at x = search rules in
    let all : items ≡ map (setting_item w) xs = ap (row_items w) c.in-Settings.is ∙ ap (map (setting_item w)) (sym c.as_slice-in-Settings.ensures) in
    ok-more c.setting_item.result (λ held. item_in held ≡ setting_item w x) (λ held. drop c.args.at items ≡ item_in held ∷ drop (c.args.at + 1) items)
    (λ held same. member-at items (setting_item w) xs c.args.at x (item_in held) all below is same) c.setting_item.ensures
