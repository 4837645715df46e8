use Rattle.std.proofs.Common.{◌≡◌, List, ℕ, [], ◌∷◌, ◌++◌, length, arith, ap, ◌∙◌}
use Rattle.bf_machine.specs.Sure.{SureState}
use Rattle.bf_world.specs.Maps.{put}
use Rattle.office_rules.specs.Offices.{new_computer}
use Rattle.office_play.specs.States.{ComputerState, OfficeState, kept_of, shown_computer}
use Rattle.office_play.proofs.Mails.{new_good, new_of}
use Rattle.office_play.proofs.NewNames.{adds_named, computer_named, names_computer}
use Rattle.office_play.proofs.office.Office.add_computer.Goals as goal

pub new-requires : goal.new-requires
new-requires c = c.requires.name

pub returns-clause-plays : goal.returns-clause-plays
returns-clause-plays c =
    let i = c.self.inside in
    let old : OfficeState = c.args.self.now in
    let name = c.args.name in
    let relay = c.args.relay in
    let world = c.args.world in
    let worlds = c.in_ok-worlds.worlds in
    let made : List ℕ × ComputerState = c.in_ok-computer.computer in
    let shown : shown_computer made.1 ≡ new_computer name relay world =
    c.in_ok-computer.ensures.computer
    ∙ new_of name relay worlds.machine.world worlds.again world (ap (λ (m : SureState). m.world) c.in_ok-worlds.ensures.machine) c.in_ok-worlds.ensures.again in
    let pushed : c.push.new.self.items ≡ i.computers.items ++ (name, made.1) ∷ [] =
    c.in_ok-push.ensures.items ∙ ap (λ (n : List ℕ). i.computers.items ++ (n, made.1) ∷ []) c.in_ok-computer.ensures.name in
    let places : c.put.new.self ≡ put name c.len-place.result i.computer_places =
    c.in_ok-put.ensures.ok ∙ ap (λ n. put n c.len-place.result i.computer_places) c.as_str.ensures in
    let at : c.len-place.result ≡ length i.computers.items = omega (arith, c.len-place.ensures, i.computers.ok.0) in
    let new_is = computer_named _ old name made.1 (new_computer name relay world) c.push.new.self.items c.put.new.self c.len-place.result c.self.view_is pushed shown places at in
    names_computer (kept_of old) _ name relay c.args.out.now world c.requires.good c.requires.free
    (new_good c.args.self.now.relays name relay world c.requires.name c.requires.relay c.in_ok-computer.ensures.sound) new_is

pub returns-clause-names : goal.returns-clause-names
returns-clause-names c =
    let i = c.self.inside in
    let old : OfficeState = c.args.self.now in
    let name = c.args.name in
    let relay = c.args.relay in
    let world = c.args.world in
    let worlds = c.in_ok-worlds.worlds in
    let made : List ℕ × ComputerState = c.in_ok-computer.computer in
    let shown : shown_computer made.1 ≡ new_computer name relay world =
    c.in_ok-computer.ensures.computer
    ∙ new_of name relay worlds.machine.world worlds.again world (ap (λ (m : SureState). m.world) c.in_ok-worlds.ensures.machine) c.in_ok-worlds.ensures.again in
    let pushed : c.push.new.self.items ≡ i.computers.items ++ (name, made.1) ∷ [] =
    c.in_ok-push.ensures.items ∙ ap (λ (n : List ℕ). i.computers.items ++ (n, made.1) ∷ []) c.in_ok-computer.ensures.name in
    adds_named _ old name made.1 (new_computer name relay world) c.push.new.self.items c.put.new.self c.self.view_is pushed shown
