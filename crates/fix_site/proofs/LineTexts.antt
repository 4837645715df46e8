-- No LF stands in a line of a site or of an action.
use Rattle.std.proofs.Common.{ℕ, ◌≡◌, ◌≢◌, ◌==◌, ℤ, List, [], ◌∷◌, ◌++◌, true, false, refl, sym, ap, ◌∙◌, arith, All, Option, Some, None, map, length, Ok}
use Rattle.std.specs.List.{list_all}
use Rattle.std.specs.Fmt.{signed_decimal}
use Rattle.std.specs.Prelude.{codes, decimal, not, Bool, flat_map}
use Rattle.std.proofs.lemmas.List.Elements.{All-nil, All-cons, All-append}
use Rattle.hex.specs.Hex.{encode_lower, decode_sized, is_hex_digit, lower_digits}
use Rattle.hex.proofs.HexLemmas.{decode_sized-encode_lower, decode_sized-twice, decode_of-ok, length-encode_with}
use Rattle.line_forms.specs.Cuts.{Lacks}
use Rattle.line_forms.specs.Contents as held
use Rattle.line_forms.specs.Names.{IsName, IsRest, IsLineText}
use Rattle.line_forms.specs.Fields.{field_text}
use Rattle.line_forms.specs.FieldLists.{line_of}
use Rattle.line_forms.specs.Lines.{IsLine}
use Rattle.line_forms.specs.Numbers.{IsId}
use Rattle.line_forms.proofs.Cutting.{lacks_by}
use Rattle.line_forms.proofs.LineBytes.{all_flat, all_mapped, lacks_id, lacks_name, worded}
use Rattle.line_forms.proofs.PlainLemmas.{lacks_fields, lacks_plain, plain_moment}
use Rattle.act_rules.specs.declared.rule.Rules.{Rules}
use Rattle.fix_site.specs.declared.action.Action.{Action}
use Rattle.fix_site.specs.declared.action.Target.{Target}
use Rattle.fix_site.specs.declared.action.Target.TheVariants as target
use Rattle.fix_site.specs.declared.baseline.Baseline.{Baseline}
use Rattle.fix_site.specs.declared.block.Block.{Block}
use Rattle.fix_site.specs.declared.block.Block.TheVariants.{Fixlet as fixlet_block, Baseline as baseline_block, Action as action_block}
use Rattle.fix_site.specs.declared.fixlet.Fixlet.{Fixlet}
use Rattle.fix_site.specs.declared.fixlet.Success.{Success}
use Rattle.fix_site.specs.declared.fixlet.Success.TheVariants as success
use Rattle.fix_site.specs.declared.site.Site.{Site}
use Rattle.fix_site.specs.RuleLines.{IsRules, moment_field, hours_fields, day_digit, reapply_fields, client_lines, hours_line, days_line, retries_line, reapply_line, start_line, until_line, rules_lines}
use Rattle.fix_site.specs.Actions.{IsAction, IsTarget, action_line, issued_line, content_line, members_line, computer_line, target_lines, state_line, end_line, action_rest, action_lines}
use Rattle.fix_site.specs.Contents.{IsFixlet, IsBaseline, IsSuccess, fixlet_line, baseline_line, title_line, relevance_line, success_line, component_line, fixlet_rest, baseline_rest}
use Rattle.fix_site.specs.Blocks.{IsBlock, block_lines}
use Rattle.fix_site.specs.Sites.{IsSite, IsDigestValue, site_line, digest_line, lines_with}
use Rattle.fix_site.specs.Readings.{IsMaybeMoment, named_fields, counted_fields}
use Rattle.fix_site.proofs.FieldLemmas.{plain_named, plain_counted}
use Rattle.fix_site.proofs.RuleFields.{hours_one_plain, reapply_plain}
use Rattle.fix_site.proofs.BlockLines.{all_good}

rest_line : (rest : List ℕ) → IsRest rest → Lacks 10 rest
rest_line rest is = is.1.1

-- lines of a list, and others
lines_of_all : {V : Type 0} (P : V → Type 0) (first : V → List ℕ) (vs : List V) (rest : List (List ℕ)) → ((v : V) → P v → IsLine (first v)) → All P vs → All IsLine rest → All IsLine (map first vs ++ rest)
lines_of_all P first vs rest says all h = All-append IsLine (map first vs) rest (all_mapped first P says vs all) h

end_lines : All IsLine (end_line ∷ [])
end_lines = All-cons IsLine end_line [] (lacks_by 10 end_line refl) (All-nil IsLine)

-- fixlets and baselines
success_is : (s : Success) → IsSuccess s → IsLine (success_line s)
success_is success.Lines is = lacks_by 10 (success_line success.Lines) refl
success_is success.Relevance is = lacks_by 10 (success_line success.Relevance) refl
success_is (success.Clause question) is = worded (field_text (codes "success clause")) question refl (rest_line question is)

content_is : (line : List ℕ) → IsLineText line → IsLine (held.content_line line)
content_is [] is = lacks_by 10 (held.content_line []) refl
content_is (x ∷ line) is = worded (codes "| ") (x ∷ line) refl is.1

relevance_is : (question : List ℕ) → IsRest question → IsLine (relevance_line question)
relevance_is question is = worded (field_text (codes "relevance")) question refl (rest_line question is)

title_is : (title : List ℕ) → IsRest title → IsLine (title_line title)
title_is title is = worded (field_text (codes "title")) title refl (rest_line title is)

fixlet_are : (f : Fixlet) → IsFixlet f → All IsLine (fixlet_rest f)
fixlet_are f is =
    All-cons IsLine (title_line f.title) _ (title_is f.title is.title)
    (lines_of_all IsRest relevance_line f.relevance _ relevance_is is.relevance
    (All-cons IsLine (success_line f.success) _ (success_is f.success is.success) (lines_of_all IsLineText held.content_line f.script (end_line ∷ []) content_is is.script.good end_lines)))

component_is : (id : ℕ) → IsId id → IsLine (component_line id)
component_is id is = worded (field_text (codes "component")) (decimal id) refl (lacks_id id is)

baseline_are : (b : Baseline) → IsBaseline b → All IsLine (baseline_rest b)
baseline_are b is =
    All-cons IsLine (title_line b.title) _ (title_is b.title is.title)
    (lines_of_all IsRest relevance_line b.relevance _ relevance_is is.relevance (lines_of_all IsId component_line b.components (end_line ∷ []) component_is is.components end_lines))

-- actions
target_are : (t : Target) (rest : List (List ℕ)) → IsTarget t → All IsLine rest → All IsLine (target_lines t ++ rest)
target_are target.All rest is h = All-cons IsLine (codes "target all") rest (lacks_by 10 (codes "target all") refl) h
target_are (target.Computers names) rest is h = lines_of_all IsName computer_line names rest computer_is is.1 h
  where
    computer_is : (name : List ℕ) → IsName name → IsLine (computer_line name)
    computer_is name is = worded (field_text (codes "target computer")) name refl (lacks_name name is)
target_are (target.Where question) rest is h = All-cons IsLine _ rest (worded (field_text (codes "target where")) question refl (rest_line question is)) h

moment_is : (moment : Option ℤ) → IsMaybeMoment moment → Lacks 10 (moment_field moment)
moment_is None is = lacks_by 10 (codes "none") refl
moment_is (Some moment) is = lacks_plain 10 (signed_decimal moment) (omega arith) (plain_moment moment is)

client_are : (client : Bool) (rest : List (List ℕ)) → All IsLine rest → All IsLine (client_lines client ++ rest)
client_are true rest h = All-cons IsLine (codes "time client") rest (lacks_by 10 (codes "time client") refl) h
client_are false rest h = h

days_is : (days : List Bool) → Lacks 10 (map day_digit days)
days_is [] = All-nil (λ x. x ≢ 10)
days_is (true ∷ days) = All-cons (λ x. x ≢ 10) 49 (map day_digit days) (λ e. omega arith) (days_is days)
days_is (false ∷ days) = All-cons (λ x. x ≢ 10) 48 (map day_digit days) (λ e. omega arith) (days_is days)

rules_are : (rules : Rules) → IsRules rules → All IsLine (rules_lines rules)
rules_are rules is =
    let r5 = reapply_line rules.reapply ∷ [] in
    let r4 = retries_line rules.retries rules.wait ∷ r5 in
    let r3 = days_line rules.days ∷ r4 in
    let r2 = hours_line rules.hours ∷ r3 in
    let r1 = client_lines rules.client ++ r2 in
    All-cons IsLine (start_line rules.start) (until_line rules.until ∷ r1) (worded (field_text (codes "start")) (moment_field rules.start) refl (moment_is rules.start is.start))
    (All-cons IsLine (until_line rules.until) r1 (worded (field_text (codes "until")) (moment_field rules.until) refl (moment_is rules.until is.until))
    (client_are rules.client r2
    (All-cons IsLine (hours_line rules.hours) r3 (worded (field_text (codes "hours")) (line_of (hours_fields rules.hours)) refl (lacks_fields (hours_fields rules.hours) (hours_one_plain rules.hours is.hours)))
    (All-cons IsLine (days_line rules.days) r4 (worded (field_text (codes "days")) (map day_digit rules.days) refl (days_is rules.days))
    (All-cons IsLine (retries_line rules.retries rules.wait) r5 (worded (field_text (codes "retries")) (line_of (counted_fields rules.retries rules.wait)) refl (lacks_fields (counted_fields rules.retries rules.wait) (plain_counted rules.retries rules.wait is.retries is.wait)))
    (All-cons IsLine (reapply_line rules.reapply) [] (worded (field_text (codes "reapply")) (line_of (reapply_fields rules.reapply)) refl (lacks_fields (reapply_fields rules.reapply) (reapply_plain rules.reapply is.reapply)))
    (All-nil IsLine)))))))

members_is : (all : Bool) → IsLine (members_line all)
members_is true = lacks_by 10 (members_line true) refl
members_is false = lacks_by 10 (members_line false) refl

state_is : (stopped : Bool) → IsLine (state_line stopped)
state_is true = lacks_by 10 (state_line true) refl
state_is false = lacks_by 10 (state_line false) refl

named_is : (word name : List ℕ) (id : ℕ) → list_all (λ x. not (x == 10)) (field_text word) ≡ true → IsName name → IsId id → IsLine (field_text word ++ line_of (named_fields name id))
named_is word name id h is good = worded (field_text word) (line_of (named_fields name id)) h (lacks_fields (named_fields name id) (plain_named name id is good))

action_are : (a : Action) → IsAction a → All IsLine (action_rest a)
action_are a is =
    let last = state_line a.stopped ∷ end_line ∷ [] in
    let rest = rules_lines a.rules ++ last in
    let aim = target_lines a.target ++ rest in
    All-cons IsLine (issued_line a.issued) (content_line a.site a.content ∷ members_line a.all_members ∷ aim) (worded (field_text (codes "issued")) (signed_decimal a.issued) refl (lacks_plain 10 (signed_decimal a.issued) (omega arith) (plain_moment a.issued is.issued)))
    (All-cons IsLine (content_line a.site a.content) (members_line a.all_members ∷ aim) (named_is (codes "content") a.site a.content refl is.site is.content)
    (All-cons IsLine (members_line a.all_members) aim (members_is a.all_members)
    (target_are a.target rest is.target
    (All-append IsLine (rules_lines a.rules) last (rules_are a.rules is.rules) (All-cons IsLine (state_line a.stopped) (end_line ∷ []) (state_is a.stopped) end_lines)))))

pub whole_action_are : (a : Action) → IsAction a → All IsLine (action_lines a)
whole_action_are a is = All-cons IsLine (action_line a.id) (action_rest a) (worded (field_text (codes "action")) (decimal a.id) refl (lacks_id a.id is.id)) (action_are a is)

-- blocks and sites
block_are : (block : Block) → IsBlock block → All IsLine (block_lines block)
block_are (fixlet_block f) is = All-cons IsLine (fixlet_line f.id) (fixlet_rest f) (worded (field_text (codes "fixlet")) (decimal f.id) refl (lacks_id f.id is.id)) (fixlet_are f is)
block_are (baseline_block b) is = All-cons IsLine (baseline_line b.id) (baseline_rest b) (worded (field_text (codes "baseline")) (decimal b.id) refl (lacks_id b.id is.id)) (baseline_are b is)
block_are (action_block a) is = whole_action_are a is

blocks_are : (blocks : List Block) → All IsBlock blocks → All IsLine (flat_map block_lines blocks)
blocks_are blocks h = all_flat block_lines IsBlock block_are blocks h

-- a hexadecimal digit is no LF
digits_lack : (text digest : List ℕ) → decode_sized text 32 ≡ Ok digest → length text ≡ 64 → Lacks 10 text
digits_lack text digest is sized = let parts = decode_of-ok text digest (sym (decode_sized-twice text 32 sized) ∙ is) in
    λ k d inside e. not_digit (sym (ap is_hex_digit e) ∙ parts.1 k d inside)
  where
    not_digit : is_hex_digit 10 ≡ true → ⊥
    not_digit h = cc

pub digest_length : (digest : List ℕ) → IsDigestValue digest → length (encode_lower digest) ≡ 64
digest_length digest is = let e = length-encode_with lower_digits digest in omega (arith, e, is.0)

digest_is : (digest : List ℕ) → IsDigestValue digest → IsLine (digest_line digest)
digest_is digest is =
    worded (field_text (codes "digest")) (encode_lower digest) refl
    (digits_lack (encode_lower digest) digest (decode_sized-encode_lower digest 32 is.0 is.1) (digest_length digest is))

pub site_are : (site : Site) (digest : List ℕ) → IsSite site → IsDigestValue digest → All IsLine (lines_with site digest)
site_are site digest is is_digest =
    All-cons IsLine (site_line site.name site.version) (flat_map block_lines site.blocks ++ digest_line digest ∷ []) (named_is (codes "site") site.name site.version refl is.name is.version)
    (All-append IsLine (flat_map block_lines site.blocks) (digest_line digest ∷ []) (blocks_are site.blocks (all_good site.name site.blocks is.blocks))
    (All-cons IsLine (digest_line digest) [] (digest_is digest is_digest) (All-nil IsLine)))
