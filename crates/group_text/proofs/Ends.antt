-- The last line of an analysis and of a group is `end`, and no other is. Other crates may cite these lemmas.
use Rattle.std.proofs.Common.{ℕ, ◌≡◌, ◌≢◌, List, [], ◌∷◌, ◌++◌, map, Bool, true, false, get_or, sym, ap, arith, All}
use Rattle.std.proofs.lemmas.List.Elements.{All-nil, All-cons}
use Rattle.line_forms.proofs.Parts.{Lines}
use Rattle.group_text.specs.declared.analysis.Analysis.{Analysis}
use Rattle.group_text.specs.declared.group.Group.{Group}
use Rattle.group_text.specs.Analyses.{IsAnalysis}
use Rattle.group_text.specs.Groups.{IsGroup, group_line, match_line}
use Rattle.group_text.specs.Properties.{property_line}
use Rattle.group_text.specs.Tests.{test_line}
use Rattle.group_text.proofs.AnalysisParts.{end_line, analysis_line, end_not_property}
use Rattle.group_text.proofs.TestLines.{end_not_test}

-- these lines end with `end` and have it nowhere else
abbrev pub EndsOnce : Lines → Type 0
EndsOnce lines = (before : Lines) × (lines ≡ before ++ end_line ∷ []) × All (λ line. line ≢ end_line) before

none_ends : {V : Type 0} (line_of : V → List ℕ) → ((v : V) → end_line ≡ line_of v → ⊥) → (vs : List V) → All (λ line. line ≢ end_line) (map line_of vs)
none_ends line_of none [] = All-nil (λ line. line ≢ end_line)
none_ends line_of none (v ∷ vs) = All-cons (λ line. line ≢ end_line) (line_of v) (map line_of vs) (λ e. none v (sym e)) (none_ends line_of none vs)

pub analysis_ends : (lines : Lines) (a : Analysis) → IsAnalysis a lines → EndsOnce lines
analysis_ends lines a is = (
  analysis_line ∷ map property_line a.properties,
  is.lines_are,
  All-cons (λ line. line ≢ end_line) analysis_line (map property_line a.properties) (λ e. let k : get_or {A = ℕ} (97 ∷ []) 0 0 ≡ 101 = ap (λ (l : List ℕ). get_or l 0 0) e in omega arith) (none_ends property_line end_not_property a.properties),
)

match_not_end : (any : Bool) → match_line any ≢ end_line
match_not_end true e = let k : get_or {A = ℕ} (109 ∷ []) 0 0 ≡ 101 = ap (λ (l : List ℕ). get_or l 0 0) e in omega arith
match_not_end false e = let k : get_or {A = ℕ} (109 ∷ []) 0 0 ≡ 101 = ap (λ (l : List ℕ). get_or l 0 0) e in omega arith

pub group_ends : (lines : Lines) (g : Group) → IsGroup g lines → EndsOnce lines
group_ends lines g is = (
  group_line g.name ∷ match_line g.any ∷ map test_line g.tests,
  is.lines_are,
  All-cons (λ line. line ≢ end_line) (group_line g.name) (match_line g.any ∷ map test_line g.tests) (λ e. let k : get_or {A = ℕ} (103 ∷ []) 0 0 ≡ 101 = ap (λ (l : List ℕ). get_or l 0 0) e in omega arith)
      (All-cons (λ line. line ≢ end_line) (match_line g.any) (map test_line g.tests) (match_not_end g.any) (none_ends test_line end_not_test g.tests)),
)
