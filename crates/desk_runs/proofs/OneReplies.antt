-- The replies to a round's requests: each means one value at most.
use Rattle.std.proofs.Common.{◌≡◌, ◌≢◌, ℕ, List, [], ◌∷◌, ◌++◌, map, flat_map, eqb, eq-eqb, get_or, false, All, None, Some, refl, sym, ap, ◌∙◌, subst, arith, append-nil, append_assoc}
use Rattle.std.specs.Prelude.{codes, decimal}
use Rattle.std.proofs.lemmas.Fmt.{decimal_injective}
use Rattle.std.proofs.lemmas.List.{append_cancel_left, append_cancel_right}
use Rattle.std.proofs.lemmas.List.Elements.{All-nil, All-cons, All-head, All-tail}
use Rattle.hex.specs.Hex.{decode_of, encode_lower}
use Rattle.hex.proofs.HexLemmas.{decode_of-encode_lower}
use Rattle.line_forms.specs.Cuts.{IsCut}
use Rattle.line_forms.specs.Lines.{IsLine, lines_text}
use Rattle.line_forms.specs.LineStates.{lines_of}
use Rattle.line_forms.proofs.Cutting.{IsCut-one}
use Rattle.line_forms.proofs.LineLemmas.{lines_of-lines_text}
use Rattle.line_forms.proofs.Passing.{cons_head, cons_tail}
use Rattle.line_forms.proofs.PlainLemmas.{IsPlain, id_one, lacks_fields, lacks_plain, plain_id, plain_name}
use Rattle.fix_site.specs.Sites.{IsSite, site_text}
use Rattle.fix_site.specs.declared.site.Site.{Site}
use Rattle.server_text.specs.Bodies.{digest_body, number_body, version_line}
use Rattle.server_text.specs.declared.site_versions.SiteVersion.{SiteVersion}
use Rattle.desk_rounds.specs.declared.judged.Asker.{Asker}
use Rattle.desk_rounds.specs.declared.judged.Judged.TheVariants as judged
use Rattle.desk_rounds.specs.Asking.{Means}
use Rattle.desk_rounds.specs.Listing.{listed_line}
use Rattle.desk_rounds.specs.Replies.{IsListed, JudgesReport, ListsSites, SaysOfReport, TellsFile, TellsSite}

-- a reply means one value at most
abbrev pub OneMeaning : {V : Type 0} → Means V → Type 0
OneMeaning {V} means = (status : ℕ) (body : List ℕ) (one other : V) → means status body one → means status body other → one ≡ other

differ : (m n : ℕ) → eqb m n ≡ false → m ≡ n → ⊥
differ m n other same =
    let yes = eq-eqb m n same in
    cc (yes, other)

-- no status is two
not_both : (status m n : ℕ) → eqb m n ≡ false → status ≡ m → status ≡ n → ⊥
not_both status m n apart a b = differ m n apart (sym a ∙ b)

-- no body is two texts that differ at a place
not_same : (place : ℕ) (body x y : List ℕ) → eqb (get_or x place 0) (get_or y place 0) ≡ false → body ≡ x → body ≡ y → ⊥
not_same place body x y apart a b = differ (get_or x place 0) (get_or y place 0) apart (ap (λ ds. get_or ds place 0) (sym a ∙ b))

-- ---- the list of the sites
line_cut : (site : SiteVersion) → IsListed site → IsCut 32 (listed_line site) site.name (decimal site.version)
line_cut site is = (lacks_plain 32 site.name (omega arith) (plain_name site.name is.name), append_assoc site.name (32 ∷ []) (decimal site.version))

-- a line is that of one site
one_line : (x y : SiteVersion) → IsListed x → IsListed y → listed_line x ≡ listed_line y → x ≡ y
one_line x y a b e =
    let other = line_cut y b in
    let same = IsCut-one 32 (listed_line x) x.name (decimal x.version) y.name (decimal y.version) (line_cut x a) (other.0, e ∙ other.1) in
    let version : x.version ≡ y.version = id_one x.version y.version a.version b.version (sym same.1) in
    λ i. record { name = sym same.0 i; version = version i }

line_is : (site : SiteVersion) → IsListed site → IsLine (listed_line site)
line_is site is =
    subst IsLine (sym (append_assoc site.name (32 ∷ []) (decimal site.version)))
    (lacks_fields (site.name ∷ decimal site.version ∷ [])
    (All-cons IsPlain site.name (decimal site.version ∷ []) (plain_name site.name is.name)
    (All-cons IsPlain (decimal site.version) [] (plain_id site.version is.version) (All-nil IsPlain))))

lines_are : (sites : List SiteVersion) → All IsListed sites → All IsLine (map listed_line sites)
lines_are [] are = All-nil IsLine
lines_are (site ∷ sites) are =
    All-cons IsLine (listed_line site) (map listed_line sites) (line_is site (All-head IsListed site sites are))
    (lines_are sites (All-tail IsListed site sites are))

versions_text : (sites : List SiteVersion) → flat_map version_line sites ≡ lines_text (map listed_line sites)
unfolding version_line
versions_text [] = refl
versions_text (site ∷ sites) = ap (λ t. version_line site ++ t) (versions_text sites)

versions_lines : (body : List ℕ) (sites : List SiteVersion) → All IsListed sites → body ≡ flat_map version_line sites → lines_of body ≡ map listed_line sites
versions_lines body sites are is =
    let whole : body ≡ lines_text (map listed_line sites) ++ [] = is ∙ versions_text sites ∙ sym (append-nil (lines_text (map listed_line sites))) in
    ap lines_of whole ∙ lines_of-lines_text (map listed_line sites) [] (lines_are sites are) (All-nil (λ other. other ≢ 10))

same_sites : (xs ys : List SiteVersion) → All IsListed xs → All IsListed ys → map listed_line xs ≡ map listed_line ys → xs ≡ ys
same_sites [] [] a b e = refl
same_sites [] (y ∷ ys) a b e = absurd (cc)
same_sites (x ∷ xs) [] a b e = absurd (cc)
same_sites (x ∷ xs) (y ∷ ys) a b e =
    let first = one_line x y (All-head IsListed x xs a) (All-head IsListed y ys b) (cons_head (listed_line x) (listed_line y) (map listed_line xs) (map listed_line ys) e) in
    let rest = same_sites xs ys (All-tail IsListed x xs a) (All-tail IsListed y ys b) (cons_tail (listed_line x) (listed_line y) (map listed_line xs) (map listed_line ys) e) in
    λ i. first i ∷ rest i

pub one_list : OneMeaning ListsSites
one_list status body xs ys p q =
    same_sites xs ys p.listed.good q.listed.good
    (sym (versions_lines body xs p.listed.good p.says.body_is) ∙ versions_lines body ys q.listed.good q.says.body_is)

-- ---- a site
-- the law that a text is that of one site
abbrev pub OneSite : Type 0
OneSite = (site other : Site) → IsSite site → IsSite other → site_text site ≡ site_text other → site ≡ other

site_not_same : (site : Site) (body : List ℕ) → body ≡ site_text site → body ≡ codes "same\n" → ⊥
site_not_same site body is same = not_same 1 body (site_text site) (codes "same\n") refl is same

pub one_site_told : OneSite → (name : List ℕ) → OneMeaning (TellsSite name)
one_site_told law name status body None None p q = refl
one_site_told law name status body None (Some site) p q = absurd (site_not_same site body q.says.body_is p.body_is)
one_site_told law name status body (Some site) None p q = absurd (site_not_same site body p.says.body_is q.body_is)
one_site_told law name status body (Some site) (Some other) p q =
    ap (λ (s : Site). Some s) (law site other p.good q.good (sym p.says.body_is ∙ q.says.body_is))

-- ---- a file
pub one_file : OneMeaning TellsFile
one_file status body None None p q = refl
one_file status body None (Some bytes) p q = absurd (not_both status 404 200 refl p q.status_is)
one_file status body (Some bytes) None p q = absurd (not_both status 200 404 refl p.status_is q)
one_file status body (Some bytes) (Some other) p q = ap (λ (b : List ℕ). Some b) (sym p.body_is ∙ q.body_is)

-- ---- what is said of a report
digest_same : (x y : List ℕ) → digest_body (codes "conflict") x ≡ digest_body (codes "conflict") y → encode_lower x ≡ encode_lower y
unfolding digest_body
digest_same x y e =
    append_cancel_right (encode_lower x) (encode_lower y) (10 ∷ [])
    (append_cancel_left (codes "conflict ") (encode_lower x ++ 10 ∷ []) (encode_lower y ++ 10 ∷ []) e)

limit_same : (m n : ℕ) → number_body (codes "full") m ≡ number_body (codes "full") n → decimal m ≡ decimal n
unfolding number_body
limit_same m n e =
    append_cancel_right (decimal m) (decimal n) (10 ∷ [])
    (append_cancel_left (codes "full ") (decimal m ++ 10 ∷ []) (decimal n ++ 10 ∷ []) e)

one_said : OneMeaning SaysOfReport
one_said status body judged.Ok judged.Ok p q = refl
one_said status body judged.Ok judged.Again p q = absurd (not_same 0 body (codes "ok\n") (codes "again\n") refl p.says.body_is q.says.body_is)
one_said status body judged.Ok judged.Stored p q = absurd (not_same 0 body (codes "ok\n") (codes "stored\n") refl p.says.body_is q.says.body_is)
one_said status body judged.Ok judged.Carried p q = absurd (not_same 0 body (codes "ok\n") (codes "carried\n") refl p.says.body_is q.says.body_is)
one_said status body judged.Ok (judged.Conflict digest) p q = absurd (not_both status 200 409 refl p.says.status_is q.says.status_is)
one_said status body judged.Ok (judged.Full limit) p q = absurd (not_both status 200 507 refl p.says.status_is q.says.status_is)
one_said status body judged.Again judged.Ok p q = absurd (not_same 0 body (codes "again\n") (codes "ok\n") refl p.says.body_is q.says.body_is)
one_said status body judged.Again judged.Again p q = refl
one_said status body judged.Again judged.Stored p q = absurd (not_same 0 body (codes "again\n") (codes "stored\n") refl p.says.body_is q.says.body_is)
one_said status body judged.Again judged.Carried p q = absurd (not_same 0 body (codes "again\n") (codes "carried\n") refl p.says.body_is q.says.body_is)
one_said status body judged.Again (judged.Conflict digest) p q = absurd (not_both status 200 409 refl p.says.status_is q.says.status_is)
one_said status body judged.Again (judged.Full limit) p q = absurd (not_both status 200 507 refl p.says.status_is q.says.status_is)
one_said status body judged.Stored judged.Ok p q = absurd (not_same 0 body (codes "stored\n") (codes "ok\n") refl p.says.body_is q.says.body_is)
one_said status body judged.Stored judged.Again p q = absurd (not_same 0 body (codes "stored\n") (codes "again\n") refl p.says.body_is q.says.body_is)
one_said status body judged.Stored judged.Stored p q = refl
one_said status body judged.Stored judged.Carried p q = absurd (not_same 0 body (codes "stored\n") (codes "carried\n") refl p.says.body_is q.says.body_is)
one_said status body judged.Stored (judged.Conflict digest) p q = absurd (not_both status 200 409 refl p.says.status_is q.says.status_is)
one_said status body judged.Stored (judged.Full limit) p q = absurd (not_both status 200 507 refl p.says.status_is q.says.status_is)
one_said status body judged.Carried judged.Ok p q = absurd (not_same 0 body (codes "carried\n") (codes "ok\n") refl p.says.body_is q.says.body_is)
one_said status body judged.Carried judged.Again p q = absurd (not_same 0 body (codes "carried\n") (codes "again\n") refl p.says.body_is q.says.body_is)
one_said status body judged.Carried judged.Stored p q = absurd (not_same 0 body (codes "carried\n") (codes "stored\n") refl p.says.body_is q.says.body_is)
one_said status body judged.Carried judged.Carried p q = refl
one_said status body judged.Carried (judged.Conflict digest) p q = absurd (not_both status 200 409 refl p.says.status_is q.says.status_is)
one_said status body judged.Carried (judged.Full limit) p q = absurd (not_both status 200 507 refl p.says.status_is q.says.status_is)
one_said status body (judged.Conflict digest) judged.Ok p q = absurd (not_both status 409 200 refl p.says.status_is q.says.status_is)
one_said status body (judged.Conflict digest) judged.Again p q = absurd (not_both status 409 200 refl p.says.status_is q.says.status_is)
one_said status body (judged.Conflict digest) judged.Stored p q = absurd (not_both status 409 200 refl p.says.status_is q.says.status_is)
one_said status body (judged.Conflict digest) judged.Carried p q = absurd (not_both status 409 200 refl p.says.status_is q.says.status_is)
one_said status body (judged.Conflict digest) (judged.Conflict other) p q =
    let digits = digest_same digest other (sym p.says.body_is ∙ q.says.body_is) in
    let decoded = sym (decode_of-encode_lower digest p.form.1) ∙ ap (λ t. decode_of t) digits ∙ decode_of-encode_lower other q.form.1 in
    let same : digest ≡ other = cc in
    ap judged.Conflict same
one_said status body (judged.Conflict digest) (judged.Full limit) p q = absurd (not_both status 409 507 refl p.says.status_is q.says.status_is)
one_said status body (judged.Full limit) judged.Ok p q = absurd (not_both status 507 200 refl p.says.status_is q.says.status_is)
one_said status body (judged.Full limit) judged.Again p q = absurd (not_both status 507 200 refl p.says.status_is q.says.status_is)
one_said status body (judged.Full limit) judged.Stored p q = absurd (not_both status 507 200 refl p.says.status_is q.says.status_is)
one_said status body (judged.Full limit) judged.Carried p q = absurd (not_both status 507 200 refl p.says.status_is q.says.status_is)
one_said status body (judged.Full limit) (judged.Conflict digest) p q = absurd (not_both status 507 409 refl p.says.status_is q.says.status_is)
one_said status body (judged.Full limit) (judged.Full other) p q =
    ap judged.Full (decimal_injective limit other p.form q.form (limit_same limit other (sym p.says.body_is ∙ q.says.body_is)))

pub one_judged : (asker : Asker) → OneMeaning (JudgesReport asker)
one_judged asker status body one other p q = one_said status body one other p.said q.said
