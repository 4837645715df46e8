use Rattle.std.proofs.Common.{◌≡◌, ◌+◌, ◌<◌, ◌≤◌, ℕ, List, ◌∷◌, true, length, drop, refl, sym, ap, ◌∙◌, arith}
use Rattle.std.proofs.lemmas.Grind.{common_steps}
use Rattle.std.proofs.lemmas.List.{drop_more}
use Rattle.std.proofs.lemmas.Result.{on_ok_weaker}
use Rattle.bf_world.specs.Paths.{joined}
use Rattle.rel_inspect.proofs.Falling.{goes-in, goes-past}
use Rattle.rel_inspect.proofs.descent.Descent.go_on.Goals as goal

pub returns-then-len-lt-DEEPEST : goal.returns-then-len-lt-DEEPEST
returns-then-len-lt-DEEPEST c =
    let old = c.args.self.now in
    let e = c.index-as_slice-self.result in
    let at_place = rw c.as_slice.ensures at c.index-as_slice-self.is in
    let first = drop_more old.top.entries old.top.next e c.requires.some ∙ ap (λ x. x ∷ drop (old.top.next + 1) old.top.entries) (sym at_place) in
    let is : e.folder ≡ true = grind arith in
    let high : length old.above.items < 1023 = grind (arith, common_steps) in
    let at : c.in_ok-path.path ≡ joined old.top.path e.name = c.in_ok-path.ensures ∙ ap (λ (f : List ℕ). joined f c.as_str-2.result.now) c.as_str.ensures ∙ ap (λ (n : List ℕ). joined old.top.path n) c.as_str-2.ensures in
    on_ok_weaker c.enter.result (λ enters w. goes-in w old _ c.enter.new.self e c.in_ok-path.path c.requires.ahead first is high at refl enters) c.enter.ensures

pub returns : goal.returns
returns c =
    let old = c.args.self.now in
    let e = c.index-as_slice-self.result in
    let at_place = rw c.as_slice.ensures at c.index-as_slice-self.is in
    let first = drop_more old.top.entries old.top.next e c.requires.some ∙ ap (λ x. x ∷ drop (old.top.next + 1) old.top.entries) (sym at_place) in
    let is : e.folder ≡ true = grind arith in
    let deep : 1023 ≤ length old.above.items = grind (arith, common_steps) in
    λ w. goes-past w old _ e c.requires.ahead first is deep refl
