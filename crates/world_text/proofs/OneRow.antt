-- A line adds one thing at most.
use Rattle.std.proofs.Common.{◌≡◌, ℕ, ℤ, List, [], ◌∷◌, ◌++◌, sym, ap, subst, ◌∙◌, inl, inr, lit<}
use Rattle.std.specs.Prelude.{codes}
use Rattle.line_forms.specs.Fields.{IsFirstField}
use Rattle.line_forms.specs.Lines.{ended_line}
use Rattle.line_forms.proofs.Cutting.{IsCut-one}
use Rattle.bf_world.specs.declared.parts.Program.{Program}
use Rattle.bf_world.specs.Maps.{put}
use Rattle.bf_world.specs.Worlds.{WorldState}
use Rattle.world_text.specs.declared.draft.Draft.{Draft}
use Rattle.world_text.specs.declared.draft.Pending.{Pending}
use Rattle.world_text.specs.declared.draft.Pending.TheVariants as pending
use Rattle.world_text.specs.declared.kind.Kind.{Kind}
use Rattle.world_text.specs.declared.kind.Kind.TheVariants as kind
use Rattle.world_text.specs.Drafts.{just, world_of}
use Rattle.world_text.specs.Rows.{keyword, AddsFile, AddsPackage, AddsSetting, AddsProgram, AddsGives, AddsContent, AddsRow, AddsFields, Adds}
use Rattle.world_text.proofs.FieldLemmas.{moment_one, number_one, content_one, keyword_one, content_not_kind, end_not_kind, end_not_content}
use Rattle.world_text.proofs.RowLemmas.{file_at, package_at, setting_at, program_at, gives_at}

file_one : (w : WorldState) (rest : List ℕ) (a b : Draft) → AddsFile w rest a → AddsFile w rest b → b ≡ a
file_one w rest a b h k =
    let same = file_at w rest h.field h.path b h.fields k in
    same.3 ∙ ap (λ (m : ℤ). record { world = w; pending = pending.File h.path [] m }) (moment_one h.field h.moment same.0 h.moment_is same.1) ∙ sym h.new_is

package_one : (w : WorldState) (rest : List ℕ) (a b : Draft) → AddsPackage w rest a → AddsPackage w rest b → b ≡ a
package_one w rest a b h k = (package_at w rest h.version h.name b h.fields k).3 ∙ sym h.new_is

setting_one : (w : WorldState) (rest : List ℕ) (a b : Draft) → AddsSetting w rest a → AddsSetting w rest b → b ≡ a
setting_one w rest a b h k =
    let same = setting_at w rest h.field h.name h.value b (h.more, h.first, h.fields) k in
    same.5 ∙ ap (λ (d : ℤ). just (record w { settings = put h.name (record { value = h.value; date = d }) w.settings })) (moment_one h.field h.date same.0 h.date_is same.1)
    ∙ sym h.new_is

abbrev program_draft : WorldState → List ℕ → ℕ → ℕ → Draft
program_draft w line polls exit = record { world = w; pending = pending.Program line (record { polls = polls; exit = exit; gives = [] }) }

program_one : (w : WorldState) (rest : List ℕ) (a b : Draft) → AddsProgram w rest a → AddsProgram w rest b → b ≡ a
program_one w rest a b h k =
    let same = program_at w rest h.field h.code h.line b (h.more, h.first, h.fields) k in
    same.6 ∙ ap (λ (n : ℕ). program_draft w h.line n same.1) (number_one 1000000 h.field h.polls same.0 (lit< tt) h.polls_is same.2)
    ∙ ap (λ (n : ℕ). program_draft w h.line h.polls n) (number_one 255 h.code h.exit same.1 (lit< tt) h.exit_is same.3) ∙ sym h.new_is

pending_program : (line other : List ℕ) (program more : Program) (p : Pending) → p ≡ pending.Program line program → p ≡ pending.Program other more → (other ≡ line) × (more ≡ program)
pending_program line other program more p h k = (let e = sym k ∙ h in cc, let e = sym k ∙ h in cc)

abbrev given : Draft → List ℕ → List ℕ → List ℕ → Program → Draft
given d version name line program =
    record d { pending = pending.Program line (record program { gives = program.gives ++ record { name = name; version = version } ∷ [] }) }

gives_one : (d : Draft) (rest : List ℕ) (a b : Draft) → AddsGives d rest a → AddsGives d rest b → b ≡ a
gives_one d rest a b h k =
    let same = gives_at d rest h.version h.name b h.fields k in
    let p = pending_program h.line same.0 h.program same.1 d.pending h.pending_is same.2 in
    same.5 ∙ ap (λ (l : List ℕ). given d h.version h.name l same.1) p.0 ∙ ap (λ (q : Program). given d h.version h.name h.line q) p.1 ∙ sym h.new_is

pub pending_file : (path other before done : List ℕ) (m n : ℤ) (p : Pending) → p ≡ pending.File path before m → p ≡ pending.File other done n → (other ≡ path) × (done ≡ before) × (n ≡ m)
pending_file path other before done m n p h k = (let e = sym k ∙ h in cc, let e = sym k ∙ h in cc, let e = sym k ∙ h in cc)

abbrev extended : Draft → List ℕ → List ℕ → List ℕ → ℤ → Draft
extended d path before content modified = record d { pending = pending.File path (before ++ ended_line content) modified }

content_adds_one : (d : Draft) (line : List ℕ) (a b : Draft) → AddsContent d line a → AddsContent d line b → b ≡ a
content_adds_one d line a b h k =
    let p = pending_file h.path k.path h.before k.before h.modified k.modified d.pending h.pending_is k.pending_is in
    let c = content_one h.content k.content (sym h.content_is.1 ∙ k.content_is.1) in
    k.new_is ∙ ap (λ (x : List ℕ). extended d x k.before k.content k.modified) p.0 ∙ ap (λ (x : List ℕ). extended d h.path x k.content k.modified) p.1
    ∙ ap (λ (x : List ℕ). extended d h.path h.before x k.modified) c ∙ ap (λ (x : ℤ). extended d h.path h.before h.content x) p.2 ∙ sym h.new_is

fields_one : (k : Kind) (d : Draft) (rest : List ℕ) (a b : Draft) → AddsFields k d rest a → AddsFields k d rest b → b ≡ a
fields_one kind.Folder d rest a b h k = k.new_is ∙ sym h.new_is
fields_one kind.File d rest a b h k = file_one (world_of d) rest a b h k
fields_one kind.Package d rest a b h k = package_one (world_of d) rest a b h k
fields_one kind.Process d rest a b h k = k.new_is ∙ sym h.new_is
fields_one kind.Setting d rest a b h k = setting_one (world_of d) rest a b h k
fields_one kind.Program d rest a b h k = program_one (world_of d) rest a b h k
fields_one kind.Gives d rest a b h k = gives_one d rest a b h k

-- a line of a kind, cut into the word and the fields that are known
pub row_at : (d : Draft) (line word rest : List ℕ) (new : Draft) → IsFirstField line word rest → AddsRow d line new → (k : Kind) × (word ≡ keyword k) × AddsFields k d rest new
row_at d line word rest new cut a =
    let same = IsCut-one 32 line word rest (keyword a.kind) a.rest cut a.fields in
    let P : List ℕ → Type 0 = λ r. AddsFields a.kind d r new in
    (a.kind, sym same.0, subst P same.1 a.adds)

pub row_of_kind : (k : Kind) (d : Draft) (line rest : List ℕ) (new : Draft) → IsFirstField line (keyword k) rest → AddsRow d line new → AddsFields k d rest new
row_of_kind k d line rest new cut a =
    let r = row_at d line (keyword k) rest new cut a in
    let P : Kind → Type 0 = λ l. AddsFields l d rest new in
    subst P (keyword_one k r.0 (sym r.1)) r.2

pub adds_one : (d : Draft) (line : List ℕ) (a b : Draft) → Adds d line a → Adds d line b → b ≡ a
adds_one d line a b (inl h) (inl k) = content_adds_one d line a b h k
adds_one d line a b (inl h) (inr k) = absurd (content_not_kind k.kind line h.content k.rest h.content_is k.fields)
adds_one d line a b (inr h) (inl k) = absurd (content_not_kind h.kind line k.content h.rest k.content_is h.fields)
adds_one d line a b (inr h) (inr k) = fields_one h.kind d h.rest a b h.adds (row_of_kind h.kind d line h.rest b h.fields k)

-- the last line adds nothing
pub end_adds_none : (d : Draft) (new : Draft) → Adds d (codes "end") new → ⊥
end_adds_none d new (inl h) = end_not_content h.content h.content_is.1
end_adds_none d new (inr h) = end_not_kind h.kind h.rest h.fields
