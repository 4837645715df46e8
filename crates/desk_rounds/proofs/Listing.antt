-- The lines of listed sites, and their order.
use Rattle.std.proofs.Common.{◌≡◌, ◌≢◌, ℕ, ◌-◌, ◌<◌, List, [], ◌∷◌, ◌++◌, map, flat_map, length, slice_get, Some, All, Err, IfSome, refl, sym, ap, ◌∙◌, subst, arith, append-nil, append_assoc}
use Rattle.std.specs.Prelude.{decimal}
use Rattle.std.specs.declared.cmp.Ordering.TheVariants.{Less}
use Rattle.std.specs.Ordering.{nat_cmp}
use Rattle.std.specs.Cmp.Lexicographic.{slice_cmp, nat_list_cmp_total}
use Rattle.std.specs.List.{AllByRecursion}
use Rattle.std.specs.List.Sorted.{IsStrictlySortedBy}
use Rattle.std.proofs.lemmas.List.{map-append}
use Rattle.std.proofs.lemmas.List.Elements.{All-nil, All-cons, All-push, All-head, All-tail}
use Rattle.line_forms.specs.Cuts.{IsCut, Lacks}
use Rattle.line_forms.specs.Lines.{IsLine, lines_text}
use Rattle.line_forms.specs.LineStates.{lines_of, unended_of}
use Rattle.line_forms.proofs.Cutting.{IsCut-one}
use Rattle.line_forms.proofs.Lasts.{all_at}
use Rattle.line_forms.proofs.LineLemmas.{lines_of-lines_text, text_of-lines, unended_of-lines_text}
use Rattle.line_forms.proofs.Passing.{cons_head, cons_tail}
use Rattle.line_forms.proofs.PlainLemmas.{IsPlain, id_one, lacks_fields, lacks_plain, plain_id, plain_name}
use Rattle.line_forms.proofs.Sorted.{sorted_around}
use Rattle.server_text.specs.Bodies.{version_line}
use Rattle.server_text.specs.declared.site_versions.SiteVersion.{SiteVersion}
use Rattle.desk_rounds.specs.declared.asking.Miss.{Miss}
use Rattle.desk_rounds.specs.declared.asking.Miss.TheVariants as miss
use Rattle.desk_rounds.specs.Listing.{IsBehindLast, ReadsVersions, TakesVersion, listed_line}
use Rattle.desk_rounds.specs.Replies.{AreListed, AreVersionsIn, IsListed}

-- ---- lines
line_cut : (site : SiteVersion) → IsListed site → IsCut 32 (listed_line site) site.name (decimal site.version)
line_cut site is =
    (lacks_plain 32 site.name (omega arith) (plain_name site.name is.name), append_assoc site.name (32 ∷ []) (decimal site.version))

-- a line without a space is that of no site
pub no_space : (line : List ℕ) (site : SiteVersion) → Lacks 32 line → IsListed site → line ≢ listed_line site
no_space line site lacks is e =
    all_at (λ x. x ≢ 32) site.name (decimal site.version) 32 (subst (Lacks 32) (e ∙ (line_cut site is).1) lacks) refl

-- what stands before and behind the first space
pub cut_same : (line first rest : List ℕ) (site : SiteVersion) → IsCut 32 line first rest → IsListed site → line ≡ listed_line site
    → (first ≡ site.name) × (rest ≡ decimal site.version)
cut_same line first rest site cut is e =
    let other = line_cut site is in
    let same = IsCut-one 32 line first rest site.name (decimal site.version) cut (other.0, e ∙ other.1) in
    (sym same.0, sym same.1)

pub line_from : (line first rest name : List ℕ) (version : ℕ) → IsCut 32 line first rest → name ≡ first → rest ≡ decimal version
    → line ≡ listed_line (record { name = name; version = version })
line_from line first rest name version cut n d =
    cut.1 ∙ (λ i. sym n i ++ 32 ∷ d i) ∙ sym (append_assoc name (32 ∷ []) (decimal version))

-- a line is that of one site
pub listed_one : (x y : SiteVersion) → IsListed x → IsListed y → listed_line x ≡ listed_line y → x ≡ y
listed_one x y a b e =
    let other = line_cut y b in
    let same = IsCut-one 32 (listed_line x) x.name (decimal x.version) y.name (decimal y.version) (line_cut x a) (other.0, e ∙ other.1) in
    let version : x.version ≡ y.version = id_one x.version y.version a.version b.version (sym same.1) in
    λ i. record { name = sym same.0 i; version = version i }

line_is : (site : SiteVersion) → IsListed site → IsLine (listed_line site)
line_is site is =
    subst IsLine (sym (append_assoc site.name (32 ∷ []) (decimal site.version)))
    (lacks_fields (site.name ∷ decimal site.version ∷ [])
    (All-cons IsPlain site.name (decimal site.version ∷ []) (plain_name site.name is.name)
    (All-cons IsPlain (decimal site.version) [] (plain_id site.version is.version) (All-nil IsPlain))))

lines_are : (sites : List SiteVersion) → All IsListed sites → All IsLine (map listed_line sites)
lines_are [] are = All-nil IsLine
lines_are (site ∷ sites) are =
    All-cons IsLine (listed_line site) (map listed_line sites) (line_is site (All-head IsListed site sites are))
    (lines_are sites (All-tail IsListed site sites are))

pub versions_text : (sites : List SiteVersion) → flat_map version_line sites ≡ lines_text (map listed_line sites)
unfolding version_line
versions_text [] = refl
versions_text (site ∷ sites) = ap (λ t. version_line site ++ t) (versions_text sites)

-- the lines of the text of listed sites
pub versions_lines : (text : List ℕ) (sites : List SiteVersion) → AreVersionsIn text sites
    → (lines_of text ≡ map listed_line sites) × (unended_of text ≡ [])
versions_lines text sites are =
    let whole : text ≡ lines_text (map listed_line sites) ++ [] = are.text_is ∙ versions_text sites ∙ sym (append-nil (lines_text (map listed_line sites))) in
    let good = lines_are sites are.listed.good in (
      ap lines_of whole ∙ lines_of-lines_text (map listed_line sites) [] good (All-nil (λ other. other ≢ 10)),
      ap unended_of whole ∙ unended_of-lines_text (map listed_line sites) [] good (All-nil (λ other. other ≢ 10)),
    )

-- sites whose lines begin with those of others begin with these, and the next line is that of the next site
split_same : (sites other : List SiteVersion) (line : List ℕ) (more : List (List ℕ)) → All IsListed sites → All IsListed other
    → map listed_line other ≡ map listed_line sites ++ line ∷ more
    → (site : SiteVersion) × (rest : List SiteVersion) × (other ≡ sites ++ site ∷ rest) × (line ≡ listed_line site)
split_same [] [] line more a b e = absurd (cc)
split_same [] (site ∷ rest) line more a b e = (site, rest, refl, sym (cons_head (listed_line site) line (map listed_line rest) more e))
split_same (x ∷ sites) [] line more a b e = absurd (cc)
split_same (x ∷ sites) (y ∷ other) line more a b e =
    let same : y ≡ x = listed_one y x (All-head IsListed y other b) (All-head IsListed x sites a)
    (cons_head (listed_line y) (listed_line x) (map listed_line other) (map listed_line sites ++ line ∷ more) e) in
    let left = split_same sites other line more (All-tail IsListed x sites a) (All-tail IsListed y other b)
    (cons_tail (listed_line y) (listed_line x) (map listed_line other) (map listed_line sites ++ line ∷ more) e) in
    (left.0, left.1, λ i. same i ∷ left.2 i, left.3)

-- ---- order
abbrev name_of : SiteVersion → List ℕ
name_of site = site.name

-- the last of these sites, the first of which is given
last_of : SiteVersion → List SiteVersion → SiteVersion
last_of here [] = here
last_of here (next ∷ rest) = last_of next rest

last_is : (here : SiteVersion) (rest : List SiteVersion) → slice_get (here ∷ rest) (length rest) ≡ Some (last_of here rest)
unfolding last_of
last_is here [] = refl
last_is here (next ∷ rest) = last_is next rest

last_place : (here : SiteVersion) (rest : List SiteVersion) → slice_get (here ∷ rest) (length (here ∷ rest) - 1) ≡ Some (last_of here rest)
last_place here rest =
    let at : length (here ∷ rest) - 1 ≡ length rest = omega arith in
    ap (slice_get (here ∷ rest)) at ∙ last_is here rest

behind_last : (here : SiteVersion) (rest : List SiteVersion) (name : List ℕ) → IsBehindLast (here ∷ rest) name
    → slice_cmp nat_cmp (last_of here rest).name name ≡ Less
behind_last here rest name behind =
    subst (λ found. IfSome found (λ (last : SiteVersion). slice_cmp nat_cmp last.name name ≡ Less)) (last_place here rest) behind

is_behind : (here : SiteVersion) (rest : List SiteVersion) (name : List ℕ) → slice_cmp nat_cmp (last_of here rest).name name ≡ Less
    → IsBehindLast (here ∷ rest) name
is_behind here rest name less =
    subst (λ found. IfSome found (λ (last : SiteVersion). slice_cmp nat_cmp last.name name ≡ Less)) (sym (last_place here rest)) less

all_below : (here : SiteVersion) (rest : List SiteVersion) (name : List ℕ) → IsStrictlySortedBy (slice_cmp nat_cmp) (map name_of (here ∷ rest))
    → slice_cmp nat_cmp (last_of here rest).name name ≡ Less
    → AllByRecursion (λ other. slice_cmp nat_cmp other name ≡ Less) (map name_of (here ∷ rest))
unfolding IsStrictlySortedBy last_of
all_below here [] name sorted less = (less, tt)
all_below here (next ∷ rest) name sorted less =
    let later = all_below next rest name sorted.1 less in
    (nat_list_cmp_total.trans here.name next.name name sorted.0.0 later.0, later)

sorted_none : IsStrictlySortedBy (slice_cmp nat_cmp) []
unfolding IsStrictlySortedBy
sorted_none = tt

sorted_one : (name : List ℕ) → IsStrictlySortedBy (slice_cmp nat_cmp) (name ∷ [])
unfolding IsStrictlySortedBy
sorted_one name = (tt, tt)

sorted_push : (sites : List SiteVersion) (site : SiteVersion) → IsStrictlySortedBy (slice_cmp nat_cmp) (map name_of sites)
    → IsBehindLast sites site.name → IsStrictlySortedBy (slice_cmp nat_cmp) (map name_of (sites ++ site ∷ []))
sorted_push [] site sorted behind = sorted_one site.name
sorted_push (here ∷ rest) site sorted behind =
    subst (IsStrictlySortedBy (slice_cmp nat_cmp)) (sym (map-append name_of (here ∷ rest) (site ∷ [])))
    (sorted_around nat_list_cmp_total (map name_of (here ∷ rest)) site.name [] sorted
    (all_below here rest site.name sorted (behind_last here rest site.name behind)) tt sorted_none)

pub listed_none : AreListed []
listed_none = record { good = All-nil IsListed; ascending = sorted_none }

pub listed_push : (sites : List SiteVersion) (site : SiteVersion) → AreListed sites → IsListed site → IsBehindLast sites site.name
    → AreListed (sites ++ site ∷ [])
listed_push sites site are is behind =
    record { good = All-push IsListed sites site are.good is; ascending = sorted_push sites site are.ascending behind }

last_less : (here : SiteVersion) (rest : List SiteVersion) (site : SiteVersion)
    → IsStrictlySortedBy (slice_cmp nat_cmp) (map name_of (here ∷ (rest ++ site ∷ []))) → slice_cmp nat_cmp (last_of here rest).name site.name ≡ Less
unfolding IsStrictlySortedBy last_of
last_less here [] site sorted = sorted.0.0
last_less here (next ∷ rest) site sorted = last_less next rest site sorted.1

-- what stands last in listed sites can be listed, and its name comes behind
pub pushed_behind : (sites : List SiteVersion) (site : SiteVersion) → AreListed (sites ++ site ∷ []) → IsBehindLast sites site.name
pushed_behind [] site are = tt
pushed_behind (here ∷ rest) site are = is_behind here rest site.name (last_less here rest site are.ascending)

last_good : (sites : List SiteVersion) (site : SiteVersion) → All IsListed (sites ++ site ∷ []) → IsListed site
last_good [] site good = All-head IsListed site [] good
last_good (here ∷ rest) site good = last_good rest site (All-tail IsListed here (rest ++ site ∷ []) good)

pub pushed_listed : (sites : List SiteVersion) (site : SiteVersion) → AreListed (sites ++ site ∷ []) → IsListed site
pushed_listed sites site are = last_good sites site are.good

-- the first ones of listed sites are listed
front_good : (sites : List SiteVersion) (site : SiteVersion) (rest : List SiteVersion) → All IsListed (sites ++ site ∷ rest)
    → All IsListed (sites ++ site ∷ [])
front_good [] site rest good = All-cons IsListed site [] (All-head IsListed site rest good) (All-nil IsListed)
front_good (here ∷ sites) site rest good =
    All-cons IsListed here (sites ++ site ∷ []) (All-head IsListed here (sites ++ site ∷ rest) good)
    (front_good sites site rest (All-tail IsListed here (sites ++ site ∷ rest) good))

front_below : (name : List ℕ) (sites : List SiteVersion) (site : SiteVersion) (rest : List SiteVersion)
    → AllByRecursion (λ other. slice_cmp nat_cmp name other ≡ Less) (map name_of (sites ++ site ∷ rest))
    → AllByRecursion (λ other. slice_cmp nat_cmp name other ≡ Less) (map name_of (sites ++ site ∷ []))
front_below name [] site rest below = (below.0, tt)
front_below name (here ∷ sites) site rest below = (below.0, front_below name sites site rest below.1)

front_sorted : (sites : List SiteVersion) (site : SiteVersion) (rest : List SiteVersion)
    → IsStrictlySortedBy (slice_cmp nat_cmp) (map name_of (sites ++ site ∷ rest))
    → IsStrictlySortedBy (slice_cmp nat_cmp) (map name_of (sites ++ site ∷ []))
unfolding IsStrictlySortedBy
front_sorted [] site rest sorted = (tt, tt)
front_sorted (here ∷ sites) site rest sorted =
    (front_below here.name sites site rest sorted.0, front_sorted sites site rest sorted.1)

listed_front : (sites : List SiteVersion) (site : SiteVersion) (rest : List SiteVersion) → AreListed (sites ++ site ∷ rest)
    → AreListed (sites ++ site ∷ [])
listed_front sites site rest are =
    record { good = front_good sites site rest are.good; ascending = front_sorted sites site rest are.ascending }

-- no listed sites have a text whose lines go on so
pub never_listed : (text : List ℕ) (sites : List SiteVersion) (line : List ℕ) (more : List (List ℕ)) → AreListed sites
    → lines_of text ≡ map listed_line sites ++ line ∷ more
    → ((site : SiteVersion) → line ≡ listed_line site → ¬ AreListed (sites ++ site ∷ [])) → (other : List SiteVersion) → ¬ AreVersionsIn text other
never_listed text sites line more are ahead never other is =
    let split = split_same sites other line more are.good is.listed.good (sym (versions_lines text other is).0 ∙ ahead) in
    never split.0 split.3 (listed_front sites split.0 split.1 (subst AreListed split.2 is.listed))

-- a text with bytes behind its last LF is that of none
pub never_unended : (text : List ℕ) → 0 < length (unended_of text) → (other : List SiteVersion) → ¬ AreVersionsIn text other
never_unended text some other is =
    let none : length (unended_of text) ≡ 0 = ap length (versions_lines text other is).1 in
    omega (arith, some, none)

-- where all lines are taken and nothing is left, the text is that of the sites
text_of_versions : (text : List ℕ) (sites : List SiteVersion) → text ≡ lines_text (map listed_line sites) → AreListed sites → AreVersionsIn text sites
text_of_versions text sites is are = record { listed = are; text_is = is ∙ sym (versions_text sites) }

-- where a line can't be taken behind these sites
pub missed_versions : (text : List ℕ) (sites : List SiteVersion) (line : List ℕ) (left ahead : List (List ℕ)) (why : Miss) (new : List SiteVersion)
    → AreListed sites → lines_of text ≡ map listed_line sites ++ left → left ≡ line ∷ ahead → TakesVersion line sites (Err why) new
    → ReadsVersions text (Err why)
missed_versions text sites line left ahead miss.NoAnswer new are so is takes = absurd takes
missed_versions text sites line left ahead miss.BadAnswer new are so is takes =
    never_listed text sites line ahead are (so ∙ ap (λ l. map listed_line sites ++ l) is) takes
missed_versions text sites line left ahead miss.Memory new are so is takes = tt

-- where nothing is left
pub ended_versions : (text : List ℕ) (sites : List SiteVersion) (left : List (List ℕ)) (behind : List ℕ) → AreListed sites
    → lines_of text ≡ map listed_line sites ++ left → unended_of text ≡ behind → left ≡ [] → behind ≡ [] → AreVersionsIn text sites
ended_versions text sites left behind are so rest none nothing =
    let lines : lines_of text ≡ map listed_line sites = so ∙ ap (λ l. map listed_line sites ++ l) none ∙ append-nil (map listed_line sites) in
    let whole : text ≡ lines_text (map listed_line sites) =
    text_of-lines text ∙ (λ i. lines_text (lines i) ++ (rest ∙ nothing) i) ∙ append-nil (lines_text (map listed_line sites)) in
    text_of_versions text sites whole are
