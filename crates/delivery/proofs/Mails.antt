-- The mail of a computer after each of its steps, and the reports that were made.
use Rattle.std.specs.Prelude.{◌≡◌, ◌≢◌, ◌⊎◌, ℕ, ◌+◌, ◌<◌, ◌==◌, not, List, [], ◌∷◌, ◌++◌, All, Contains}
use Rattle.std.proofs.Common.{arith, inl, inr, refl, sym, ap, ◌∙◌, subst}
use Rattle.std.proofs.lemmas.List.Elements.{All-contains, All-filter, All-push, All-weaker, Contains-append_left, Contains-push, Contains-push_cases}
use Rattle.report_text.specs.declared.report.Report.{Report}
use Rattle.report_text.specs.declared.report_row.ReportRow.{ReportRow}
use Rattle.report_text.specs.declared.answer.Verdict.{Verdict}
use Rattle.report_text.specs.declared.answer.Verdict.TheVariants.{Carried, Conflict, Full, Stored}
use Rattle.report_text.specs.Reports.{IsReport}
use Rattle.relay_core.specs.ReportKeys.{key_of}
use Rattle.agent_core.specs.Schedules.{Mail, report_of, restarted, saved}
use Rattle.delivery.specs.Schedules.{heard}
use Rattle.delivery.proofs.Rights.{AreMade, History, IsMade, IsRightMail}

below_more : (a b : ℕ) → a < b → a < b + 1
below_more a b h = omega arith

below_next : (a b : ℕ) → b ≡ a → a < b + 1
below_next a b h = omega arith

not_below : (a b : ℕ) → a < b → a ≡ b → ⊥
not_below a b h e = omega arith

-- what a computer made has its name
pub made_own : (made : History) (name : List ℕ) (report : Report) → AreMade made → Contains made (name, report) → IsMade made report
made_own made name report are there =
    subst (λ (computer : List ℕ). Contains made (computer, report))
    (All-contains (λ entry. IsReport entry.1 × (entry.0 ≡ entry.1.computer)) made (name, report) are.good there).1 there

-- what was made can be spelled
pub made_good : (made : History) (report : Report) → AreMade made → IsMade made report → IsReport report
made_good made report are there =
    (All-contains (λ entry. IsReport entry.1 × (entry.0 ≡ entry.1.computer)) made (report.computer, report) are.good there).0

module _ (made : History) (name : List ℕ) (mail : Mail) (right : IsRightMail made name mail) where
  pub saved_right : IsRightMail made name (saved mail)
  saved_right = record { own = right.own; outbox = right.outbox; saved = right.outbox; below = right.below; next = refl }

  pub restarted_right : IsRightMail made name (restarted mail)
  restarted_right = record {
    own = right.own;
    outbox = right.saved;
    saved = right.saved;
    below = λ report there. subst (λ (n : ℕ). report.seq < n) (sym right.next) (right.below report there);
    next = refl;
  }

  pub heard_right : (seq : ℕ) (verdict : Verdict) → IsRightMail made name (heard seq verdict mail)
  heard_right seq Stored = record {
    own = right.own;
    outbox = All-filter (λ (report : Report). not (report.seq == seq)) (λ report. Contains made (name, report)) mail.outbox right.outbox;
    saved = right.saved;
    below = right.below;
    next = right.next;
  }
  heard_right seq Carried = right
  heard_right seq (Conflict digest) = right
  heard_right seq (Full limit) = right

-- ---- a report is made

-- the reports with one more
abbrev pub with_made : List ℕ → Report → History → History
with_made name report made = made ++ (name, report) ∷ []

pub made_more : (made : History) (name : List ℕ) (report : Report) (x : List ℕ × Report) → Contains made x → Contains (with_made name report made) x
made_more made name report x there = Contains-append_left made ((name, report) ∷ []) x there

-- the mail of another computer
pub other_mail : (made : History) (name other : List ℕ) (report : Report) (mail : Mail) → name ≢ other → IsRightMail made other mail
    → IsRightMail (with_made name report made) other mail
other_mail made name other report mail apart right =
    let Had : Report → Type 0 = λ r. Contains made (other, r) in
    let Has : Report → Type 0 = λ r. Contains (with_made name report made) (other, r) in
    record {
      own = right.own;
      outbox = All-weaker Had Has (λ r there. made_more made name report (other, r) there) mail.outbox right.outbox;
      saved = All-weaker Had Has (λ r there. made_more made name report (other, r) there) mail.saved_outbox right.saved;
      below = λ r there. elim (Contains-push_cases made (name, report) (other, r) there) as (λ _. r.seq < mail.next) [
        | inl old ↦ right.below r old
        | inr same ↦ absurd (apart (ap (λ (p : List ℕ × Report). p.0) same))
      ];
      next = right.next;
    }

module _ (made : History) (name : List ℕ) (mail : Mail) (rows : List ReportRow) (right : IsRightMail made name mail) where
  -- the mail of the computer that makes it
  pub maker_mail : IsRightMail (with_made name (report_of rows mail) made) name
      (saved (record mail { outbox = mail.outbox ++ report_of rows mail ∷ []; next = mail.next + 1 }))
  maker_mail =
      let report = report_of rows mail in
      let Had : Report → Type 0 = λ r. Contains made (name, r) in
      let Has : Report → Type 0 = λ r. Contains (with_made name report made) (name, r) in
      let all = All-push Has mail.outbox report (All-weaker Had Has (λ r there. made_more made name report (name, r) there) mail.outbox right.outbox)
      (Contains-push made (name, report)) in
      record {
        own = right.own;
        outbox = all;
        saved = all;
        below = λ r there. elim (Contains-push_cases made (name, report) (name, r) there) as (λ _. r.seq < mail.next + 1) [
          | inl old ↦ below_more r.seq mail.next (right.below r old)
          | inr same ↦ below_next r.seq mail.next (ap (λ (p : List ℕ × Report). p.1.seq) same)
        ];
        next = refl;
      }

  -- no report with its key was made before
  new_key : (old new : Report) → IsMade made old → ◌≡◌ {A = List ℕ × Report} (name, report_of rows mail) (new.computer, new) → key_of old ≡ key_of new → ⊥
  new_key old new there is same =
      let owner : old.computer ≡ name = ap (λ k. k.computer) same ∙ sym (ap (λ (p : List ℕ × Report). p.0) is) in
      let low : old.seq < mail.next = right.below old (subst (λ (c : List ℕ). Contains made (c, old)) owner there) in
      let seq : old.seq ≡ mail.next = ap (λ k. k.seq) same ∙ sym (ap (λ (p : List ℕ × Report). p.1.seq) is) in
      not_below old.seq mail.next low seq

  one_more : AreMade made → (report other : Report) → IsMade (with_made name (report_of rows mail) made) report
      → IsMade (with_made name (report_of rows mail) made) other → key_of report ≡ key_of other → report ≡ other
  one_more are report other there also same =
      let new = report_of rows mail in
      elim (Contains-push_cases made (name, new) (report.computer, report) there) as (λ _. report ≡ other) [
        | inl old ↦ elim (Contains-push_cases made (name, new) (other.computer, other) also) as (λ _. report ≡ other) [
          | inl older ↦ are.one report other old older same
          | inr is ↦ absurd (new_key report other old is same)
        ]
        | inr is ↦ elim (Contains-push_cases made (name, new) (other.computer, other) also) as (λ _. report ≡ other) [
          | inl old ↦ absurd (new_key other report old is (sym same))
          | inr too ↦ sym (ap (λ (p : List ℕ × Report). p.1) is) ∙ ap (λ (p : List ℕ × Report). p.1) too
        ]
      ]

  -- the reports with it
  pub made_right : AreMade made → IsReport (report_of rows mail) → AreMade (with_made name (report_of rows mail) made)
  made_right are good = record {
    good = All-push (λ entry. IsReport entry.1 × (entry.0 ≡ entry.1.computer)) made (name, report_of rows mail) are.good (good, sym right.own);
    one = one_more are;
  }
