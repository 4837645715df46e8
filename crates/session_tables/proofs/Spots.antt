-- What a path names: a row that is shown, a folder, or nothing.
use Rattle.std.proofs.Common.{◌≡◌, ◌≢◌, ℕ, Bool, true, false, ◌&&◌, List, [], ◌∷◌, ◌++◌, drop, codes, Option, None, Some, refl, sym, ap, subst, ◌∙◌, arith}
use Rattle.std.specs.Prelude.{decimal}
use Rattle.std.specs.Str.{bytes_eq}
use Rattle.std.proofs.lemmas.Bool.{and_parts}
use Rattle.std.proofs.lemmas.List.{append_cancel_left}
use Rattle.std.proofs.lemmas.List.Elements.{All-nil, All-from_get_or}
use Rattle.std.proofs.lemmas.Slice.Eq.{bytes_eq-Decides}
use Rattle.std.proofs.lemmas.Str.Pattern.{IsSplitOnceResult, split_parts}
use Rattle.line_forms.specs.Cuts.{Lacks}
use Rattle.line_forms.specs.Numbers.{IsId}
use Rattle.line_forms.proofs.Cutting.{IsCut-one, lacks_by}
use Rattle.desk_keep.specs.declared.find.Find.{Find}
use Rattle.desk_keep.specs.declared.find.Find.TheVariants as find
use Rattle.session_tables.specs.declared.spot.Spot.TheVariants as spot
use Rattle.session_tables.specs.Inside.{CutsText, IsSpot}
use Rattle.session_tables.specs.Paths.{is_shown, is_shown_id, is_shown_name, is_shown_site, path_of}
use Rattle.session_tables.proofs.Finding.{has_slash, second}
use Rattle.session_tables.proofs.Naming.{id-Decides, name-lacks}
use denote.Ref.{Bor}

-- ---- cuts
pub cut_text : (text : List ℕ) (r : Option (Bor (List ℕ) × Bor (List ℕ))) → IsSplitOnceResult 47 text r → CutsText text r
cut_text text None split = All-from_get_or (λ x. x ≢ 47) text 0 (split_parts 47 text None split (omega arith))
cut_text text (Some x) split =
    let parts = split_parts 47 text (Some x) split (omega arith) in
    (All-from_get_or (λ x. x ≢ 47) x.0.now 0 parts.1, parts.0)

-- what stands before the first `/` is one word
pub cut_of : (folder rest word more : List ℕ) → Lacks 47 folder → Lacks 47 word → folder ++ 47 ∷ rest ≡ word ++ 47 ∷ more → (folder ≡ word) × (rest ≡ more)
cut_of folder rest word more lacks other e = IsCut-one 47 (folder ++ 47 ∷ rest) word more folder rest (other, e) (lacks, refl)

pub without_slash : (first rest text : List ℕ) → Lacks 47 text → text ≡ first ++ 47 ∷ rest → ⊥
without_slash first rest text lacks e = has_slash first rest (subst (Lacks 47) e lacks)

pub behind_one : (byte : ℕ) (a b : List ℕ) → byte ∷ a ≡ byte ∷ b → a ≡ b
behind_one byte a b e = ap (drop 1) e

-- ---- texts that are compared
pub same_text : (a b : List ℕ) → bytes_eq a b ≡ true → a ≡ b
same_text a b is = (bytes_eq-Decides a b).0 is

pub other_text : (a b : List ℕ) → bytes_eq a b ≡ false → a ≢ b
other_text a b not e = let both : false ≡ true = sym not ∙ (bytes_eq-Decides a b).1 e in cc

-- ---- a path without a leading `/`
no_row_from_work : (path : List ℕ) → ((rest : List ℕ) → path ≢ 47 ∷ rest) → (f : Find) → is_shown f ≡ true → path ≢ path_of f
unfolding path_of
no_row_from_work path other (find.Site n) is e = other (codes "sites/" ++ n) e
no_row_from_work path other (find.Action id) is e = other (codes "actions/" ++ decimal id) e
no_row_from_work path other (find.File digest) is e = absurd (cc)
no_row_from_work path other (find.Computer n) is e = other (codes "computers/" ++ n) e
no_row_from_work path other (find.Report computer seq) is e = absurd (cc)
no_row_from_work path other (find.Result c x) is e = other (codes "computers/" ++ (c ++ 47 ∷ decimal x)) e

pub from_work : (path : List ℕ) → ((rest : List ℕ) → path ≢ 47 ∷ rest) → IsSpot path spot.Nowhere
from_work path other = (other [], other (codes "actions"), other (codes "computers"), other (codes "sites"), no_row_from_work path other)

-- ---- a name in the root
pub no_row_in_root : (name : List ℕ) → Lacks 47 name → (f : Find) → is_shown f ≡ true → 47 ∷ name ≢ path_of f
unfolding path_of
no_row_in_root name lacks (find.Site n) is e = without_slash (codes "sites") n name lacks (behind_one 47 name (codes "sites/" ++ n) e)
no_row_in_root name lacks (find.Action id) is e = without_slash (codes "actions") (decimal id) name lacks (behind_one 47 name (codes "actions/" ++ decimal id) e)
no_row_in_root name lacks (find.File digest) is e = absurd (cc)
no_row_in_root name lacks (find.Computer n) is e = without_slash (codes "computers") n name lacks (behind_one 47 name (codes "computers/" ++ n) e)
no_row_in_root name lacks (find.Report computer seq) is e = absurd (cc)
no_row_in_root name lacks (find.Result c x) is e =
    without_slash (codes "computers") (c ++ 47 ∷ decimal x) name lacks (behind_one 47 name (codes "computers/" ++ (c ++ 47 ∷ decimal x)) e)

pub no_folder : (name : List ℕ) → Lacks 47 name → name ≢ [] → name ≢ codes "actions" → name ≢ codes "computers" → name ≢ codes "sites"
    → IsSpot (47 ∷ name) spot.Nowhere
no_folder name lacks root_not actions_not computers_not sites_not = (
  λ e. root_not (behind_one 47 name [] e),
  λ e. actions_not (behind_one 47 name (codes "actions") e),
  λ e. computers_not (behind_one 47 name (codes "computers") e),
  λ e. sites_not (behind_one 47 name (codes "sites") e),
  no_row_in_root name lacks,
)

-- ---- a path in another folder
no_row_there : (folder rest : List ℕ) → Lacks 47 folder → folder ≢ codes "actions" → folder ≢ codes "computers" → folder ≢ codes "sites"
    → (f : Find) → is_shown f ≡ true → 47 ∷ (folder ++ 47 ∷ rest) ≢ path_of f
unfolding path_of
no_row_there folder rest lacks actions_not computers_not sites_not (find.Site n) is e =
    sites_not (cut_of folder rest (codes "sites") n lacks (lacks_by 47 (codes "sites") refl) (behind_one 47 (folder ++ 47 ∷ rest) (codes "sites/" ++ n) e)).0
no_row_there folder rest lacks actions_not computers_not sites_not (find.Action id) is e =
    actions_not (cut_of folder rest (codes "actions") (decimal id) lacks (lacks_by 47 (codes "actions") refl) (behind_one 47 (folder ++ 47 ∷ rest) (codes "actions/" ++ decimal id) e)).0
no_row_there folder rest lacks actions_not computers_not sites_not (find.File digest) is e = absurd (cc)
no_row_there folder rest lacks actions_not computers_not sites_not (find.Computer n) is e =
    computers_not (cut_of folder rest (codes "computers") n lacks (lacks_by 47 (codes "computers") refl) (behind_one 47 (folder ++ 47 ∷ rest) (codes "computers/" ++ n) e)).0
no_row_there folder rest lacks actions_not computers_not sites_not (find.Report computer seq) is e = absurd (cc)
no_row_there folder rest lacks actions_not computers_not sites_not (find.Result c x) is e =
    let more = c ++ 47 ∷ decimal x in
    computers_not (cut_of folder rest (codes "computers") more lacks (lacks_by 47 (codes "computers") refl) (behind_one 47 (folder ++ 47 ∷ rest) (codes "computers/" ++ more) e)).0

pub no_such_folder : (folder rest : List ℕ) → Lacks 47 folder → folder ≢ codes "actions" → folder ≢ codes "computers" → folder ≢ codes "sites"
    → IsSpot (47 ∷ folder ++ 47 ∷ rest) spot.Nowhere
no_such_folder folder rest lacks actions_not computers_not sites_not =
    let text = folder ++ 47 ∷ rest in (
      λ e. without_slash folder rest [] (All-nil (λ x. x ≢ 47)) (sym (behind_one 47 text [] e)),
      λ e. without_slash folder rest (codes "actions") (lacks_by 47 (codes "actions") refl) (sym (behind_one 47 text (codes "actions") e)),
      λ e. without_slash folder rest (codes "computers") (lacks_by 47 (codes "computers") refl) (sym (behind_one 47 text (codes "computers") e)),
      λ e. without_slash folder rest (codes "sites") (lacks_by 47 (codes "sites") refl) (sym (behind_one 47 text (codes "sites") e)),
      no_row_there folder rest lacks actions_not computers_not sites_not,
    )

-- ---- what is shown
pub action_there : (text : List ℕ) (id : ℕ) → IsId id → text ≡ decimal id → IsSpot (codes "/actions/" ++ text) (spot.Row (find.Action id))
unfolding path_of
action_there text id is e = ((id-Decides id).1 is, ap (λ t. codes "/actions/" ++ t) e)

pub site_there : (name : List ℕ) → is_shown_site name ≡ true → IsSpot (codes "/sites/" ++ name) (spot.Row (find.Site name))
unfolding path_of
site_there name is = (is, refl)

pub computer_there : (name : List ℕ) → is_shown_name name ≡ true → IsSpot (codes "/computers/" ++ name) (spot.Row (find.Computer name))
unfolding path_of
computer_there name is = (is, refl)

pub both_true : (a b : Bool) → a ≡ true → b ≡ true → (a && b) ≡ true
both_true true true x y = refl
both_true true false x y = y
both_true false b x y = x

pub result_there : (computer text : List ℕ) (id : ℕ) → is_shown_name computer ≡ true → IsId id → text ≡ decimal id
    → IsSpot (codes "/computers/" ++ computer ++ 47 ∷ text) (spot.Row (find.Result computer id))
unfolding path_of
result_there computer text id shown is e =
    (both_true (is_shown_name computer) (is_shown_id id) shown ((id-Decides id).1 is), ap (λ t. codes "/computers/" ++ computer ++ 47 ∷ t) e)

-- ---- what isn't
no_row_of_actions : (text : List ℕ) → ((id : ℕ) → IsId id → ¬ (text ≡ decimal id)) → (f : Find) → is_shown f ≡ true → codes "/actions/" ++ text ≢ path_of f
unfolding path_of
no_row_of_actions text none (find.Site n) is e = absurd (let d : 97 ≡ 115 = ap second e in omega (arith, d))
no_row_of_actions text none (find.Action id) is e = none id ((id-Decides id).0 is) (append_cancel_left (codes "/actions/") text (decimal id) e)
no_row_of_actions text none (find.File digest) is e = absurd (cc)
no_row_of_actions text none (find.Computer n) is e = absurd (let d : 97 ≡ 99 = ap second e in omega (arith, d))
no_row_of_actions text none (find.Report computer seq) is e = absurd (cc)
no_row_of_actions text none (find.Result c x) is e = absurd (let d : 97 ≡ 99 = ap second e in omega (arith, d))

more_than_nothing : (byte : ℕ) (rest : List ℕ) → byte ∷ rest ≢ []
more_than_nothing byte rest e = cc

pub no_action : (text : List ℕ) → ((id : ℕ) → IsId id → ¬ (text ≡ decimal id)) → IsSpot (codes "/actions/" ++ text) spot.Nowhere
no_action text none = (
  λ e. more_than_nothing 97 (codes "ctions/" ++ text) (ap (drop 1) e),
  λ e. more_than_nothing 47 text (ap (drop 8) e),
  λ e. absurd (let d : 97 ≡ 99 = ap second e in omega (arith, d)),
  λ e. absurd (let d : 97 ≡ 115 = ap second e in omega (arith, d)),
  no_row_of_actions text none,
)

no_row_of_sites : (name : List ℕ) → is_shown_site name ≡ false → (f : Find) → is_shown f ≡ true → codes "/sites/" ++ name ≢ path_of f
unfolding path_of
no_row_of_sites name not (find.Site n) is e =
    let same : name ≡ n = append_cancel_left (codes "/sites/") name n e in
    let both : false ≡ true = sym not ∙ ap is_shown_site same ∙ is in
    cc
no_row_of_sites name not (find.Action id) is e = absurd (let d : 115 ≡ 97 = ap second e in omega (arith, d))
no_row_of_sites name not (find.File digest) is e = absurd (cc)
no_row_of_sites name not (find.Computer n) is e = absurd (let d : 115 ≡ 99 = ap second e in omega (arith, d))
no_row_of_sites name not (find.Report computer seq) is e = absurd (cc)
no_row_of_sites name not (find.Result c x) is e = absurd (let d : 115 ≡ 99 = ap second e in omega (arith, d))

pub no_site : (name : List ℕ) → is_shown_site name ≡ false → IsSpot (codes "/sites/" ++ name) spot.Nowhere
no_site name not = (
  λ e. more_than_nothing 115 (codes "ites/" ++ name) (ap (drop 1) e),
  λ e. absurd (let d : 115 ≡ 97 = ap second e in omega (arith, d)),
  λ e. absurd (let d : 115 ≡ 99 = ap second e in omega (arith, d)),
  λ e. more_than_nothing 47 name (ap (drop 6) e),
  no_row_of_sites name not,
)

-- no computer has this name, and no result this path in the computers
LacksComputer : List ℕ → Type 0
LacksComputer rest = (name : List ℕ) → is_shown_name name ≡ true → rest ≢ name

LacksResult : List ℕ → Type 0
LacksResult rest = (computer : List ℕ) (action : ℕ) → is_shown (find.Result computer action) ≡ true → rest ≢ computer ++ 47 ∷ decimal action

no_row_of_computers : (rest : List ℕ) → LacksComputer rest → LacksResult rest → (f : Find) → is_shown f ≡ true → codes "/computers/" ++ rest ≢ path_of f
unfolding path_of LacksComputer LacksResult
no_row_of_computers rest no_computer no_result (find.Site n) is e = absurd (let d : 99 ≡ 115 = ap second e in omega (arith, d))
no_row_of_computers rest no_computer no_result (find.Action id) is e = absurd (let d : 99 ≡ 97 = ap second e in omega (arith, d))
no_row_of_computers rest no_computer no_result (find.File digest) is e = absurd (cc)
no_row_of_computers rest no_computer no_result (find.Computer n) is e = no_computer n is (append_cancel_left (codes "/computers/") rest n e)
no_row_of_computers rest no_computer no_result (find.Report computer seq) is e = absurd (cc)
no_row_of_computers rest no_computer no_result (find.Result c x) is e =
    no_result c x is (append_cancel_left (codes "/computers/") rest (c ++ 47 ∷ decimal x) e)

none_of_computers : (rest : List ℕ) → LacksComputer rest → LacksResult rest → IsSpot (codes "/computers/" ++ rest) spot.Nowhere
none_of_computers rest no_computer no_result = (
  λ e. more_than_nothing 99 (codes "omputers/" ++ rest) (ap (drop 1) e),
  λ e. absurd (let d : 99 ≡ 97 = ap second e in omega (arith, d)),
  λ e. more_than_nothing 47 rest (ap (drop 10) e),
  λ e. absurd (let d : 99 ≡ 115 = ap second e in omega (arith, d)),
  no_row_of_computers rest no_computer no_result,
)

pub no_computer : (name : List ℕ) → Lacks 47 name → is_shown_name name ≡ false → IsSpot (codes "/computers/" ++ name) spot.Nowhere
unfolding LacksComputer LacksResult
no_computer name lacks not = none_of_computers name
    (λ other shown e. let both : false ≡ true = sym not ∙ ap is_shown_name e ∙ shown in cc)
    (λ computer action shown e. without_slash computer (decimal action) name lacks e)

no_name_with_slash : (computer text : List ℕ) → LacksComputer (computer ++ 47 ∷ text)
unfolding LacksComputer
no_name_with_slash computer text = λ name shown e. without_slash computer text name (name-lacks name shown) (sym e)

pub no_result_of : (computer text : List ℕ) → Lacks 47 computer → is_shown_name computer ≡ false
    → IsSpot (codes "/computers/" ++ computer ++ 47 ∷ text) spot.Nowhere
unfolding LacksResult
no_result_of computer text lacks not = none_of_computers (computer ++ 47 ∷ text) (no_name_with_slash computer text)
    (λ other action shown e.
    let p = and_parts (is_shown_name other) (is_shown_id action) shown in
    let same : computer ≡ other = (cut_of computer text other (decimal action) lacks (name-lacks other p.0) e).0 in
    let both : false ≡ true = sym not ∙ ap is_shown_name same ∙ p.0 in
    cc)

pub no_result : (computer text : List ℕ) → Lacks 47 computer → ((id : ℕ) → IsId id → ¬ (text ≡ decimal id))
    → IsSpot (codes "/computers/" ++ computer ++ 47 ∷ text) spot.Nowhere
unfolding LacksResult
no_result computer text lacks none = none_of_computers (computer ++ 47 ∷ text) (no_name_with_slash computer text)
    (λ other action shown e.
    let p = and_parts (is_shown_name other) (is_shown_id action) shown in
    none action ((id-Decides action).0 p.1) (cut_of computer text other (decimal action) lacks (name-lacks other p.0) e).1)
