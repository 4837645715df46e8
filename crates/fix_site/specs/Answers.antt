-- What reading the text of a site or of an action answers.
use Rattle.std.specs.Prelude.{◌≡◌, ◌≢◌, ℕ, ◌-◌, ◌^◌, ◌<◌, ◌≤◌, min, List, length, take, ⊤}
use Rattle.std.specs.declared.result.Result.{Result}
use Rattle.std.specs.Prelude.{Ok, Err}
use Rattle.line_forms.specs.LineStates.{lines_of}
use Rattle.line_forms.specs.Lines.{lines_text}
use Rattle.line_forms.specs.BadLines.{IsFirstBadLine, AnswersBadLine}
use Rattle.fix_site.specs.declared.action.Action.{Action}
use Rattle.fix_site.specs.declared.site.Site.{Site}
use Rattle.fix_site.specs.declared.error.SiteError.{SiteError}
use Rattle.fix_site.specs.declared.error.SiteError.TheVariants as error
use Rattle.fix_site.specs.Actions.{IsAction, AreActionLines, action_text}
use Rattle.fix_site.specs.Sites.{IsSite, AreSiteLines, EndsInTwiceId, IsDigestValue, site_text, lines_with, site_digest}

-- the most bytes of the text of a site or of an action
abbrev pub IsShort : List ℕ → Type 0
IsShort text = length text ≤ 4194304

-- The answer is the number of the first bad line, and that line has an id that stood before.
abbrev pub AnswersTwiceId : List ℕ → ℕ → Type 0
AnswersTwiceId text answer =
    (n : ℕ) × IsFirstBadLine AreSiteLines text n × EndsInTwiceId (take n (lines_of text)) × (answer ≡ min n (2 ^ 32 - 1))

-- The answer is the number of the first bad line, and that line has no id that stood before.
abbrev pub AnswersOtherLine : List ℕ → ℕ → Type 0
AnswersOtherLine text answer =
    (n : ℕ) × IsFirstBadLine AreSiteLines text n × (¬ EndsInTwiceId (take n (lines_of text)))
    × (answer ≡ min n (2 ^ 32 - 1))

-- The text is that of a site but for the digest that it states.
pub record HasWrongDigest (text stated found : List ℕ) : Type 0 where
  pub site : Site
  pub good : IsSite site
  pub digest : IsDigestValue stated
  pub lines : text ≡ lines_text (lines_with site stated)
  pub right : found ≡ site_digest site
  pub wrong : stated ≢ found

-- A text of more than 4,194,304 bytes is too long. Any other is the text of the site that is answered; or it has the first
-- bad line that is answered, by an id that stood before or otherwise; or it states the wrong digest.
abbrev pub ReadsSite : List ℕ → Result Site SiteError → Type 0
ReadsSite text (Ok site) = IsShort text × IsSite site × (text ≡ site_text site)
ReadsSite text (Err (error.BadLine line)) = IsShort text × AnswersOtherLine text line
ReadsSite text (Err (error.TwiceId line)) = IsShort text × AnswersTwiceId text line
ReadsSite text (Err (error.WrongDigest stated found)) = IsShort text × HasWrongDigest text stated found
ReadsSite text (Err error.TooLong) = 4194304 < length text
ReadsSite text (Err error.Memory) = ⊤

-- A text of more than 4,194,304 bytes is too long. Any other is the text of the action that is answered, or it has the
-- first bad line that is answered.
abbrev pub ReadsAction : List ℕ → Result Action SiteError → Type 0
ReadsAction text (Ok action) = IsShort text × IsAction action × (text ≡ action_text action)
ReadsAction text (Err (error.BadLine line)) = IsShort text × AnswersBadLine AreActionLines text line
ReadsAction text (Err (error.TwiceId line)) = ⊥
ReadsAction text (Err (error.WrongDigest stated found)) = ⊥
ReadsAction text (Err error.TooLong) = 4194304 < length text
ReadsAction text (Err error.Memory) = ⊤
