-- What a reply says, by its row of the table.
use Rattle.std.proofs.Common.{◌≡◌, ◌≢◌, ℕ, ◌^◌, ◌<◌, ◌-◌, List, [], ◌∷◌, ◌++◌, eqb, eq-eqb, get_or, false, true, Option, None, Some, Ok, Err, MatchOption, refl, sym, ap, ◌∙◌, subst, arith}
use Rattle.std.specs.Prelude.{codes, decimal}
use Rattle.std.specs.declared.result.Result.{Result}
use Rattle.std.proofs.lemmas.List.{append_cancel_left, append_cancel_right}
use Rattle.std.proofs.lemmas.Option.{MatchOption-at_none}
use Rattle.hex.specs.Hex.{encode_lower}
use Rattle.line_forms.specs.Digests.{IsDigest}
use Rattle.line_forms.specs.Numbers.{IsNumber}
use Rattle.fix_site.specs.Answers.{IsShort, ReadsSite}
use Rattle.fix_site.specs.Sites.{IsSite, site_text}
use Rattle.fix_site.specs.declared.error.SiteError.{SiteError}
use Rattle.fix_site.specs.declared.error.SiteError.TheVariants as error
use Rattle.fix_site.specs.declared.site.Site.{Site}
use Rattle.server_text.specs.Bodies.{digest_body, number_body}
use Rattle.server_text.specs.declared.site_versions.SiteVersion.{SiteVersion}
use Rattle.desk_rounds.specs.declared.asking.Miss.{Miss}
use Rattle.desk_rounds.specs.declared.asking.Miss.TheVariants as miss
use Rattle.desk_rounds.specs.declared.judged.Asker.{Asker}
use Rattle.desk_rounds.specs.declared.judged.Asker.TheVariants as asker
use Rattle.desk_rounds.specs.declared.judged.Judged.{Judged}
use Rattle.desk_rounds.specs.declared.judged.Judged.TheVariants as judged
use Rattle.desk_rounds.specs.Asking.{MeansNothing, ReadsAs}
use Rattle.desk_rounds.specs.Judgements.{may_hear}
use Rattle.desk_rounds.specs.Listing.{HasName, IsNamedText, ReadsNamed, ReadsVersions, miss_of}
use Rattle.desk_rounds.specs.Replies.{FindsValue, JudgesReport, ListsSites, SaysOfReport, TellsFile, TellsSite}
use denote.Ref.{Bor}

-- ---- the list of the sites
pub no_list : (status : ℕ) (body : List ℕ) → status ≢ 200 → MeansNothing ListsSites status body
no_list status body other = λ sites is. other is.says.status_is

pub read_list : (status : ℕ) (body : List ℕ) (result : Result (List SiteVersion) Miss) → status ≡ 200 → ReadsVersions body result
    → ReadsAs ListsSites status body result
read_list status body (Ok sites) ok reads =
    record { says = record { status_is = ok; body_is = reads.text_is }; listed = reads.listed }
read_list status body (Err miss.NoAnswer) ok reads = absurd reads
read_list status body (Err miss.BadAnswer) ok reads =
    λ sites is. reads sites (record { listed = is.listed; text_is = is.says.body_is })
read_list status body (Err miss.Memory) ok reads = tt

-- ---- a site
pub no_site : (name : List ℕ) (status : ℕ) (body : List ℕ) → status ≢ 200 → MeansNothing (TellsSite name) status body
no_site name status body other = λ answer. no_answer answer
  where
    no_answer : (answer : Option Site) → ¬ TellsSite name status body answer
    no_answer None is = other is.status_is
    no_answer (Some site) is = other is.says.status_is

pub same_site : (name : List ℕ) (status : ℕ) (body : List ℕ) → status ≡ 200 → body ≡ codes "same\n" → TellsSite name status body None
same_site name status body ok same = record { status_is = ok; body_is = same }

pub named_site : (name : List ℕ) (status : ℕ) (body : List ℕ) (site : Site) → status ≡ 200 → ReadsNamed name body (Ok site)
    → TellsSite name status body (Some site)
named_site name status body site ok is = record {
  says = record { status_is = ok; body_is = is.text_is };
  short = subst IsShort is.text_is is.short;
  good = is.good;
  named = is.named;
}

pub missed_site : (name : List ℕ) (status : ℕ) (body : List ℕ) (why : Miss) → body ≢ codes "same\n" → ReadsNamed name body (Err why)
    → ReadsAs (TellsSite name) status body (Err why)
missed_site name status body miss.NoAnswer other reads = absurd reads
missed_site name status body miss.Memory other reads = tt
missed_site name status body miss.BadAnswer other reads = λ answer. no_answer answer
  where
    no_answer : (answer : Option Site) → ¬ TellsSite name status body answer
    no_answer None is = other is.body_is
    no_answer (Some site) is = reads site (record {
      short = subst IsShort (sym is.says.body_is) is.short;
      good = is.good;
      text_is = is.says.body_is;
      named = is.named;
    })

-- a text is read as a site in one way
abbrev pub OneReading : Type 0
OneReading = (text : List ℕ) (answer other : Result Site SiteError) → answer ≢ Err error.Memory → other ≢ Err error.Memory
    → ReadsSite text answer → ReadsSite text other → answer ≡ other

-- what is read as an error is the text of no site
no_text : (text : List ℕ) (why : SiteError) → OneReading → why ≢ error.Memory → ReadsSite text (Err why) → (site : Site)
    → IsShort text → IsSite site → ¬ (text ≡ site_text site)
no_text text why one known reads site short good is =
    let same = one text (Err why) (Ok site) (λ e. known (cc)) (λ e. cc) reads (short, good, is) in
    absurd (cc)

pub missed_text : (name text : List ℕ) (why : SiteError) → OneReading → ReadsSite text (Err why) → ReadsNamed name text (Err (miss_of why))
missed_text name text error.Memory one reads = tt
missed_text name text (error.BadLine line) one reads = λ site is. no_text text (error.BadLine line) one (λ e. cc) reads site is.short is.good is.text_is
missed_text name text (error.TwiceId line) one reads = λ site is. no_text text (error.TwiceId line) one (λ e. cc) reads site is.short is.good is.text_is
missed_text name text (error.WrongDigest stated found) one reads =
    λ site is. no_text text (error.WrongDigest stated found) one (λ e. cc) reads site is.short is.good is.text_is
missed_text name text error.TooLong one reads = λ site is. no_text text error.TooLong one (λ e. cc) reads site is.short is.good is.text_is

-- the text of a site of another name
other_name : (name text : List ℕ) (site : Site) → OneReading → ReadsSite text (Ok site) → site.name ≢ name → (other : Site)
    → ¬ IsNamedText name text other
other_name name text site one reads differs other is =
    let read = one text (Ok site) (Ok other) (λ e. cc) (λ e. cc) reads (is.short, is.good, is.text_is) in
    let same : site ≡ other = cc in
    differs (ap (λ (s : Site). s.name) same ∙ is.named)

-- a text that was read as a site, which may have another name
pub read_name : (name text : List ℕ) (site : Site) (result : Result Site Miss) → OneReading → ReadsSite text (Ok site)
    → HasName name site result → ReadsNamed name text result
read_name name text site (Ok same) one reads has =
    subst (λ s. IsNamedText name text s) (sym has.1) (record { short = reads.0; good = reads.1; text_is = reads.2; named = has.0 })
read_name name text site (Err why) one reads has =
    subst (λ m. ReadsNamed name text (Err m)) (sym has.0) (other_name name text site one reads has.1)

-- ---- a file
pub no_file : (status : ℕ) (body : List ℕ) → status ≢ 200 → status ≢ 404 → MeansNothing TellsFile status body
no_file status body some none = λ answer. no_answer answer
  where
    no_answer : (answer : Option (List ℕ)) → ¬ TellsFile status body answer
    no_answer None is = none is
    no_answer (Some bytes) is = some is.status_is

-- ---- what is said of a report
differ : (m n : ℕ) → eqb m n ≡ false → m ≡ n → ⊥
differ m n other same =
    let yes = eq-eqb m n same in
    cc (yes, other)

module _ (body : List ℕ) where
  -- a line of these words
  pub no_word : body ≢ codes "ok\n" → body ≢ codes "again\n" → body ≢ codes "stored\n" → body ≢ codes "carried\n"
      → (said : Judged) → ¬ SaysOfReport 200 body said
  no_word ok again stored carried judged.Ok is = ok is.says.body_is
  no_word ok again stored carried judged.Again is = again is.says.body_is
  no_word ok again stored carried judged.Stored is = stored is.says.body_is
  no_word ok again stored carried judged.Carried is = carried is.says.body_is
  no_word ok again stored carried (judged.Conflict digest) is = absurd (differ 200 409 refl is.says.status_is)
  no_word ok again stored carried (judged.Full limit) is = absurd (differ 200 507 refl is.says.status_is)

  -- what stands between words and the LF at the end
  pub value_none : (words : List ℕ) (r : Option (Bor (List ℕ))) → MatchOption r ((rest : List ℕ) → body ≢ words ++ rest) (λ x. body ≡ words ++ x.now)
      → r ≡ None → FindsValue words body None
  value_none words r cases none = λ value is.
      MatchOption-at_none ((rest : List ℕ) → body ≢ words ++ rest) (λ x. body ≡ words ++ x.now) none cases (value ++ 10 ∷ []) is

  pub value_from : (words rest : List ℕ) (r : Option (Bor (List ℕ))) → body ≡ words ++ rest
      → MatchOption r ((front : List ℕ) → rest ≢ front ++ 10 ∷ []) (λ x. rest ≡ x.now ++ 10 ∷ []) → FindsValue words body r
  value_from words rest None is none = λ value e. none value (append_cancel_left words rest (value ++ 10 ∷ []) (sym is ∙ e))
  value_from words rest (Some x) is some = is ∙ ap (λ l. words ++ l) some

  one_value : (words x y : List ℕ) → body ≡ words ++ (x ++ 10 ∷ []) → body ≡ words ++ (y ++ 10 ∷ []) → x ≡ y
  one_value words x y a b = append_cancel_right x y (10 ∷ []) (append_cancel_left words (x ++ 10 ∷ []) (y ++ 10 ∷ []) (sym a ∙ b))

  digest_is : (digest : List ℕ) → body ≡ digest_body (codes "conflict") digest → body ≡ codes "conflict " ++ (encode_lower digest ++ 10 ∷ [])
  unfolding digest_body
  digest_is digest is = is

  is_digest : (digest : List ℕ) → body ≡ codes "conflict " ++ (encode_lower digest ++ 10 ∷ []) → body ≡ digest_body (codes "conflict") digest
  unfolding digest_body
  is_digest digest is = is

  limit_is : (limit : ℕ) → body ≡ number_body (codes "full") limit → body ≡ codes "full " ++ (decimal limit ++ 10 ∷ [])
  unfolding number_body
  limit_is limit is = is

  is_limit : (limit : ℕ) → body ≡ codes "full " ++ (decimal limit ++ 10 ∷ []) → body ≡ number_body (codes "full") limit
  unfolding number_body
  is_limit limit is = is

  -- a reply with the status of a conflict tells of one, and one with that of a limit of a limit
  only_conflict : ((digest : List ℕ) → ¬ SaysOfReport 409 body (judged.Conflict digest)) → (said : Judged) → ¬ SaysOfReport 409 body said
  only_conflict none judged.Ok is = absurd (differ 409 200 refl is.says.status_is)
  only_conflict none judged.Again is = absurd (differ 409 200 refl is.says.status_is)
  only_conflict none judged.Stored is = absurd (differ 409 200 refl is.says.status_is)
  only_conflict none judged.Carried is = absurd (differ 409 200 refl is.says.status_is)
  only_conflict none (judged.Conflict digest) is = none digest is
  only_conflict none (judged.Full limit) is = absurd (differ 409 507 refl is.says.status_is)

  only_limit : ((limit : ℕ) → ¬ SaysOfReport 507 body (judged.Full limit)) → (said : Judged) → ¬ SaysOfReport 507 body said
  only_limit none judged.Ok is = absurd (differ 507 200 refl is.says.status_is)
  only_limit none judged.Again is = absurd (differ 507 200 refl is.says.status_is)
  only_limit none judged.Stored is = absurd (differ 507 200 refl is.says.status_is)
  only_limit none judged.Carried is = absurd (differ 507 200 refl is.says.status_is)
  only_limit none (judged.Conflict digest) is = absurd (differ 507 409 refl is.says.status_is)
  only_limit none (judged.Full limit) is = none limit is

  pub no_conflict : FindsValue (codes "conflict ") body None → (said : Judged) → ¬ SaysOfReport 409 body said
  no_conflict none = only_conflict (λ digest is. none (encode_lower digest) (digest_is digest is.says.body_is))

  pub no_digest : (digits : List ℕ) → body ≡ codes "conflict " ++ (digits ++ 10 ∷ []) → ((digest : List ℕ) → ¬ IsDigest digits digest)
      → (said : Judged) → ¬ SaysOfReport 409 body said
  no_digest digits is none = only_conflict (λ digest said.
      none digest (said.form.0, said.form.1, one_value (codes "conflict ") digits (encode_lower digest) is (digest_is digest said.says.body_is)))

  pub is_conflict : (digits digest : List ℕ) → body ≡ codes "conflict " ++ (digits ++ 10 ∷ []) → IsDigest digits digest
      → SaysOfReport 409 body (judged.Conflict digest)
  is_conflict digits digest is spells = record {
    says = record { status_is = refl; body_is = is_digest digest (is ∙ ap (λ d. codes "conflict " ++ (d ++ 10 ∷ [])) spells.2) };
    form = (spells.0, spells.1);
  }

  pub no_full : FindsValue (codes "full ") body None → (said : Judged) → ¬ SaysOfReport 507 body said
  no_full none = only_limit (λ limit is. none (decimal limit) (limit_is limit is.says.body_is))

  pub no_limit : (digits : List ℕ) → body ≡ codes "full " ++ (digits ++ 10 ∷ []) → ((limit : ℕ) → ¬ IsNumber (2 ^ 64 - 1) digits limit)
      → (said : Judged) → ¬ SaysOfReport 507 body said
  no_limit digits is none = only_limit (λ limit said.
      none limit (omega (arith, said.form), one_value (codes "full ") digits (decimal limit) is (limit_is limit said.says.body_is)))

  pub is_full : (digits : List ℕ) (limit : ℕ) → body ≡ codes "full " ++ (digits ++ 10 ∷ []) → IsNumber (2 ^ 64 - 1) digits limit
      → SaysOfReport 507 body (judged.Full limit)
  is_full digits limit is spells = record {
    says = record { status_is = refl; body_is = is_limit limit (is ∙ ap (λ d. codes "full " ++ (d ++ 10 ∷ [])) spells.1) };
    form = omega (arith, spells.0);
  }

  -- no other status is that of what is said of a report
  pub no_status : (status : ℕ) → status ≢ 200 → status ≢ 409 → status ≢ 507 → (said : Judged) → ¬ SaysOfReport status body said
  no_status status word conflict full judged.Ok is = word is.says.status_is
  no_status status word conflict full judged.Again is = word is.says.status_is
  no_status status word conflict full judged.Stored is = word is.says.status_is
  no_status status word conflict full judged.Carried is = word is.says.status_is
  no_status status word conflict full (judged.Conflict digest) is = conflict is.says.status_is
  no_status status word conflict full (judged.Full limit) is = full is.says.status_is

  -- ---- what is said to a client
  pub says_nothing : (asker : Asker) (status : ℕ) → ((said : Judged) → ¬ SaysOfReport status body said)
      → MeansNothing (JudgesReport asker) status body
  says_nothing asker status none = λ said is. none said is.said

  not_both : (status m n : ℕ) → m < n → status ≡ m → status ≡ n → ⊥
  not_both status m n less a b = absurd (omega (arith, less, a, b))

  -- no body is two words whose first bytes differ
  not_same : (x y : List ℕ) → eqb (get_or x 0 0) (get_or y 0 0) ≡ false → body ≡ x → body ≡ y → ⊥
  not_same x y apart a b =
      let same : get_or x 0 0 ≡ get_or y 0 0 = ap (λ ds. get_or ds 0 0) (sym a ∙ b) in
      let yes = eq-eqb (get_or x 0 0) (get_or y 0 0) same in
      cc (yes, apart)

  only_stored : (status : ℕ) (said : Judged) → SaysOfReport status body judged.Stored → SaysOfReport status body said → said ≡ judged.Stored
  only_stored status judged.Ok a b =
      absurd (not_same (codes "stored\n") (codes "ok\n") refl a.says.body_is b.says.body_is)
  only_stored status judged.Again a b =
      absurd (not_same (codes "stored\n") (codes "again\n") refl a.says.body_is b.says.body_is)
  only_stored status judged.Stored a b = refl
  only_stored status judged.Carried a b =
      absurd (not_same (codes "stored\n") (codes "carried\n") refl a.says.body_is b.says.body_is)
  only_stored status (judged.Conflict digest) a b = absurd (not_both status 200 409 (omega arith) a.says.status_is b.says.status_is)
  only_stored status (judged.Full limit) a b = absurd (not_both status 200 507 (omega arith) a.says.status_is b.says.status_is)

  only_carried : (status : ℕ) (said : Judged) → SaysOfReport status body judged.Carried → SaysOfReport status body said → said ≡ judged.Carried
  only_carried status judged.Ok a b =
      absurd (not_same (codes "carried\n") (codes "ok\n") refl a.says.body_is b.says.body_is)
  only_carried status judged.Again a b =
      absurd (not_same (codes "carried\n") (codes "again\n") refl a.says.body_is b.says.body_is)
  only_carried status judged.Stored a b =
      absurd (not_same (codes "carried\n") (codes "stored\n") refl a.says.body_is b.says.body_is)
  only_carried status judged.Carried a b = refl
  only_carried status (judged.Conflict digest) a b = absurd (not_both status 200 409 (omega arith) a.says.status_is b.says.status_is)
  only_carried status (judged.Full limit) a b = absurd (not_both status 200 507 (omega arith) a.says.status_is b.says.status_is)

  -- what may not be heard is said of nothing that may
  pub not_heard : (asker : Asker) (status : ℕ) (said : Judged) → SaysOfReport status body said → may_hear asker said ≡ false
      → MeansNothing (JudgesReport asker) status body
  not_heard asker.Agent status said is unheard = absurd (cc)
  not_heard asker.Relay status judged.Ok is unheard = absurd (cc)
  not_heard asker.Relay status judged.Again is unheard = absurd (cc)
  not_heard asker.Relay status (judged.Conflict digest) is unheard = absurd (cc)
  not_heard asker.Relay status (judged.Full limit) is unheard = absurd (cc)
  not_heard asker.Relay status judged.Stored is unheard = λ other heard.
      let same = only_stored status other is heard.said in
      let yes : false ≡ true = subst (λ j. may_hear asker.Relay j ≡ true) same heard.heard in
      absurd (cc)
  not_heard asker.Relay status judged.Carried is unheard = λ other heard.
      let same = only_carried status other is heard.said in
      let yes : false ≡ true = subst (λ j. may_hear asker.Relay j ≡ true) same heard.heard in
      absurd (cc)
