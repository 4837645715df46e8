-- What is added by a line, from what is added by its parts.
use Rattle.std.proofs.Common.{◌≡◌, ℕ, List, Ok, Err, inl, inr, refl, sym, subst, ◌∙◌}
use Rattle.std.specs.declared.result.Result.{Result}
use Rattle.line_forms.specs.Contents.{IsContentLine}
use Rattle.line_forms.specs.Cuts.{Lacks}
use Rattle.line_forms.specs.Fields.{IsFirstField}
use Rattle.bf_world.specs.Worlds.{WorldState}
use Rattle.world_text.specs.declared.draft.Draft.{Draft}
use Rattle.world_text.specs.declared.fault.Fault.{Fault}
use Rattle.world_text.specs.declared.fault.Fault.TheVariants.{Bad, Memory}
use Rattle.world_text.specs.declared.kind.Kind.{Kind}
use Rattle.world_text.specs.declared.kind.Kind.TheVariants as kind
use Rattle.world_text.specs.Drafts.{just, world_of}
use Rattle.world_text.specs.Rows.{keyword, AddsFolder, AddsFile, AddsPackage, AddsProcess, AddsSetting, AddsProgram, AddsContent, AddsFields, Adds}
use Rattle.world_text.specs.Readings.{Takes, TakesPending, ContentAt}
use Rattle.world_text.proofs.FieldLemmas.{content_one, content_not_kind, no_field}
use Rattle.world_text.proofs.OneRow.{row_at, row_of_kind}

content_at : (d new : Draft) (line content : List ℕ) → IsContentLine line content → AddsContent d line new → ContentAt d content new
content_at d new line content is a =
    let same = content_one content a.content (sym is.1 ∙ a.content_is.1) in
    let P : List ℕ → Type 0 = λ t. ContentAt d t new in
    subst P same (a.path, a.before, a.modified, a.pending_is, a.new_is)

pub content_takes : (d new : Draft) (line content : List ℕ) (r : Result (Unit {0}) Fault) → IsContentLine line content → Takes (ContentAt d content) new r → Takes (Adds d line) new r
content_takes d new line content (Ok done) is h =
    inl (record { path = h.0; before = h.1; modified = h.2; content = content; pending_is = h.3; content_is = is; new_is = h.4 })
content_takes d new line content (Err Bad) is h = λ other a. elim a [
  | inl b ↦ h other (content_at d other line content is b)
  | inr b ↦ content_not_kind b.kind line content b.rest is b.fields
]
content_takes d new line content (Err Memory) is h = tt

-- a line that is one field, and no line of content
pub one_field_line : (d other : Draft) (line : List ℕ) → ((content : List ℕ) → IsContentLine line content → ⊥) → Lacks 32 line → Adds d line other → ⊥
one_field_line d other line none lacks (inl a) = none a.content a.content_is
one_field_line d other line none lacks (inr a) = no_field line (keyword a.kind) a.rest lacks a.fields

-- a line whose word is that of no kind
pub no_kind_line : (d other : Draft) (line word rest : List ℕ) → ((content : List ℕ) → IsContentLine line content → ⊥) → IsFirstField line word rest → ((k : Kind) → word ≡ keyword k → ⊥) → Adds d line other → ⊥
no_kind_line d other line word rest none cut nobody (inl a) = none a.content a.content_is
no_kind_line d other line word rest none cut nobody (inr a) = let r = row_at d line word rest other cut a in nobody r.0 r.1

pub fields_take : (k : Kind) (d new : Draft) (line word rest : List ℕ) (r : Result (Unit {0}) Fault) → ((content : List ℕ) → IsContentLine line content → ⊥) → IsFirstField line word rest → word ≡ keyword k →
    Takes (AddsFields k d rest) new r → Takes (Adds d line) new r
fields_take k d new line word rest (Ok done) none cut is h =
    let P : List ℕ → Type 0 = λ w. IsFirstField line w rest in
    inr (record { kind = k; rest = rest; fields = subst P is cut; adds = h })
fields_take k d new line word rest (Err Bad) none cut is h = λ other a. elim a [
  | inl b ↦ none b.content b.content_is
  | inr b ↦ let P : List ℕ → Type 0 = λ w. IsFirstField line w rest in h other (row_of_kind k d line rest other (subst P is cut) b)
]
fields_take k d new line word rest (Err Memory) none cut is h = tt

-- what a kind but `gives` adds depends on the world so far alone
pub thing_to : (k : Kind) (d : Draft) (w : WorldState) (rest : List ℕ) (new : Draft) → (k ≡ kind.Gives → ⊥) → w ≡ world_of d → AddsFields k (just w) rest new → AddsFields k d rest new
thing_to kind.Folder d w rest new other e h = subst (λ (v : WorldState). AddsFolder v rest new) e h
thing_to kind.File d w rest new other e h = subst (λ (v : WorldState). AddsFile v rest new) e h
thing_to kind.Package d w rest new other e h = subst (λ (v : WorldState). AddsPackage v rest new) e h
thing_to kind.Process d w rest new other e h = subst (λ (v : WorldState). AddsProcess v rest new) e h
thing_to kind.Setting d w rest new other e h = subst (λ (v : WorldState). AddsSetting v rest new) e h
thing_to kind.Program d w rest new other e h = subst (λ (v : WorldState). AddsProgram v rest new) e h
thing_to kind.Gives d w rest new other e h = absurd (other refl)

thing_from : (k : Kind) (d : Draft) (w : WorldState) (rest : List ℕ) (new : Draft) → (k ≡ kind.Gives → ⊥) → w ≡ world_of d → AddsFields k d rest new → AddsFields k (just w) rest new
thing_from kind.Folder d w rest new other e h = subst (λ (v : WorldState). AddsFolder v rest new) (sym e) h
thing_from kind.File d w rest new other e h = subst (λ (v : WorldState). AddsFile v rest new) (sym e) h
thing_from kind.Package d w rest new other e h = subst (λ (v : WorldState). AddsPackage v rest new) (sym e) h
thing_from kind.Process d w rest new other e h = subst (λ (v : WorldState). AddsProcess v rest new) (sym e) h
thing_from kind.Setting d w rest new other e h = subst (λ (v : WorldState). AddsSetting v rest new) (sym e) h
thing_from kind.Program d w rest new other e h = subst (λ (v : WorldState). AddsProgram v rest new) (sym e) h
thing_from kind.Gives d w rest new other e h = absurd (other refl)

pub thing_fails : (k : Kind) (d new : Draft) (w after : WorldState) (rest : List ℕ) (fault : Fault) → (k ≡ kind.Gives → ⊥) → w ≡ world_of d → TakesPending (AddsFields k (just w) rest) after (Err fault) →
    Takes (AddsFields k d rest) new (Err fault)
thing_fails k d new w after rest Bad other e h = λ x a. h x (thing_from k d w rest x other e a)
thing_fails k d new w after rest Memory other e h = tt
