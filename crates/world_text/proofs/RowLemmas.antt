-- What a line of a kind adds, by the fields that it is cut into.
use Rattle.std.proofs.Common.{◌≡◌, ℕ, ℤ, Bool, true, false, List, [], ◌∷◌, ◌++◌, None, is_some, sym, ap, ◌∙◌}
use Rattle.line_forms.specs.Fields.{IsFirstField}
use Rattle.line_forms.specs.Names.{IsName, IsRest}
use Rattle.line_forms.specs.Numbers.{IsNumber, IsMomentText}
use Rattle.line_forms.specs.Versions.{IsVersion}
use Rattle.line_forms.proofs.Cutting.{IsCut-one}
use Rattle.bf_world.specs.declared.parts.Program.{Program}
use Rattle.bf_world.specs.Maps.{at, put}
use Rattle.bf_world.specs.Worlds.{WorldState}
use Rattle.world_text.specs.declared.draft.Draft.{Draft}
use Rattle.world_text.specs.declared.draft.Pending.TheVariants as pending
use Rattle.world_text.specs.Drafts.{just}
use Rattle.world_text.specs.Rows.{IsNewPath, AddsFile, AddsPackage, AddsSetting, AddsProgram, AddsGives}
use Rattle.world_text.specs.Readings.{AreThree}
use Rattle.world_text.proofs.FieldLemmas.{move2, move3, three_one}

-- a key that is there isn't absent
pub is_there : {V : Type 0} (m : List (List ℕ × V)) (key name : List ℕ) (there : Bool) → name ≡ key → there ≡ is_some (at name m) → there ≡ true → at key m ≡ None → ⊥
is_there m key name there same is truly absent =
    let e : true ≡ false = sym truly ∙ is ∙ ap (λ (k : List ℕ). is_some (at k m)) same ∙ ap is_some absent in
    cc

abbrev pub FileAt : WorldState → List ℕ → List ℕ → Draft → Type 0
FileAt w field path new =
    (moment : ℤ) × IsMomentText field moment × IsNewPath w path × (new ≡ record { world = w; pending = pending.File path [] moment })

pub file_at : (w : WorldState) (rest field path : List ℕ) (new : Draft) → IsFirstField rest field path → AddsFile w rest new → FileAt w field path new
file_at w rest field path new cut a =
    let same = IsCut-one 32 rest field path a.field a.path cut a.fields in
    move2 (λ f p. FileAt w f p new) a.field a.path field path same.0 same.1 (a.moment, a.moment_is, a.path_is, a.new_is)

abbrev pub PackageAt : WorldState → List ℕ → List ℕ → Draft → Type 0
PackageAt w version name new =
    IsVersion version × IsRest name × (at name w.packages ≡ None) × (new ≡ just (record w { packages = put name version w.packages }))

pub package_at : (w : WorldState) (rest version name : List ℕ) (new : Draft) → IsFirstField rest version name → AddsPackage w rest new → PackageAt w version name new
package_at w rest version name new cut a =
    let same = IsCut-one 32 rest version name a.version a.name cut a.fields in
    move2 (λ v n. PackageAt w v n new) a.version a.name version name same.0 same.1 (a.version_is, a.name_is, a.absent, a.new_is)

abbrev pub SettingAt : WorldState → List ℕ → List ℕ → List ℕ → Draft → Type 0
SettingAt w field name value new =
    (date : ℤ) × IsMomentText field date × IsName name × IsRest value × (at name w.settings ≡ None)
    × (new ≡ just (record w { settings = put name (record { value = value; date = date }) w.settings }))

pub setting_at : (w : WorldState) (rest field name value : List ℕ) (new : Draft) → AreThree rest field name value → AddsSetting w rest new → SettingAt w field name value new
setting_at w rest field name value new three a =
    let same = three_one rest field name value a.field a.name a.value three (a.more, a.first, a.fields) in
    move3 (λ f n v. SettingAt w f n v new) a.field a.name a.value field name value same.0 same.1 same.2 (a.date, a.date_is, a.name_is, a.value_is, a.absent, a.new_is)

abbrev pub ProgramAt : WorldState → List ℕ → List ℕ → List ℕ → Draft → Type 0
ProgramAt w field code line new =
    (polls : ℕ) × (exit : ℕ) × IsNumber 1000000 field polls × IsNumber 255 code exit × IsRest line × (at line w.programs ≡ None)
    × (new ≡ record { world = w; pending = pending.Program line (record { polls = polls; exit = exit; gives = [] }) })

pub program_at : (w : WorldState) (rest field code line : List ℕ) (new : Draft) → AreThree rest field code line → AddsProgram w rest new → ProgramAt w field code line new
program_at w rest field code line new three a =
    let same = three_one rest field code line a.field a.code a.line three (a.more, a.first, a.fields) in
    move3 (λ f c l. ProgramAt w f c l new) a.field a.code a.line field code line same.0 same.1 same.2 (a.polls, a.exit, a.polls_is, a.exit_is, a.line_is, a.absent, a.new_is)

abbrev pub GivesAt : Draft → List ℕ → List ℕ → Draft → Type 0
GivesAt d version name new =
    (line : List ℕ) × (program : Program) × (d.pending ≡ pending.Program line program) × IsVersion version × IsRest name
    × (new ≡ record d { pending = pending.Program line (record program { gives = program.gives ++ record { name = name; version = version } ∷ [] }) })

pub gives_at : (d : Draft) (rest version name : List ℕ) (new : Draft) → IsFirstField rest version name → AddsGives d rest new → GivesAt d version name new
gives_at d rest version name new cut a =
    let same = IsCut-one 32 rest version name a.version a.name cut a.fields in
    move2 (λ v n. GivesAt d v n new) a.version a.name version name same.0 same.1 (a.line, a.program, a.pending_is, a.version_is, a.name_is, a.new_is)
