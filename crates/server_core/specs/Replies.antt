-- What is answered, request by request, over the rows that are kept.
use Rattle.std.specs.Prelude.{ℕ, ◌-◌, ◌^◌, Bool, ◌&&◌, nat_eq, nat_le, nat_lt, bytes_eq, if◌then◌else◌, List, [], ◌∷◌, filter, filter_map, count_by, codes, Some, None, is_some, is_none, unwrap_or}
use Rattle.std.specs.declared.option.Option.{Option}
use Rattle.sha2.specs.Sha256.{sha256}
use Rattle.fix_site.specs.declared.site.Site.{Site}
use Rattle.fix_site.specs.declared.action.Action.{Action}
use Rattle.fix_site.specs.Actions.{action_text}
use Rattle.fix_site.specs.Sites.{site_text}
use Rattle.report_text.specs.declared.report.Report.{Report}
use Rattle.report_text.specs.Reports.{report_text}
use Rattle.desk_keep.specs.declared.table.Table.TheVariants as table
use Rattle.desk_keep.specs.declared.change.Change.{Change}
use Rattle.desk_keep.specs.declared.change.Change.TheVariants as change
use Rattle.desk_keep.specs.Tables.{is_of, is_result_of}
use Rattle.server_core.specs.declared.limits.Limits.{Limits}
use Rattle.server_text.specs.declared.reply.Reply.{Reply}
use Rattle.server_text.specs.declared.reply.Reply.TheVariants.{Ok, Again, Digest, Sites, Same, Content, Rows, BadText, Conflict, NoSuch, Older, Full}
use Rattle.server_text.specs.declared.reply.Reply.TheVariants as told
use Rattle.server_text.specs.ActionStates.{before_state, is_stopped}
use Rattle.server_text.specs.Actionsite.{actionsite_text, longest_actionsite}
use Rattle.server_text.specs.Entries.{Entry, Published, Issued, Stopped, Filed, Reported, Asked, Enters, Versions, SiteText, FileBytes, Results, Bad}
use Rattle.server_text.specs.ToldRows.{action_texts, result_row, site_version}
use Rattle.server_core.specs.AcceptedTables.{action_at, actions_version, computer_at, file_at, report_at, site_at, view}

-- the first reply, if there is one
abbrev pub first_of : List (Option Reply) → Option Reply
first_of [] = None
first_of (Some reply ∷ more) = Some reply
first_of (None ∷ more) = first_of more

-- Full of a limit that is met
abbrev pub full_if : Bool → ℕ → Option Reply
full_if met limit = if met then Some (Full limit) else None

-- how many sites are kept; `actionsite` isn't counted
abbrev pub site_count : List Change → ℕ
site_count rows = count_by (is_of table.Sites) rows - (if is_some (site_at (codes "actionsite") rows) then 1 else 0)

-- The reply to a site, where this is the row of its name; None where the site is accepted, here and below.
abbrev pub reply_to_site : Limits → List Change → Site → Option Change → Option Reply
reply_to_site limits rows site (Some (change.Site name version text)) =
    if nat_eq version site.version && bytes_eq text (site_text site) then Some Again
    else (if nat_le site.version version then Some (Older version) else None)
reply_to_site limits rows site other = full_if (nat_le limits.sites (site_count rows)) limits.sites

-- the reply to an action of this text, where that text is kept of its id, by now perhaps stopped, and this is the digest of what came
abbrev pub known_action : List ℕ → List ℕ → List ℕ → Reply
known_action kept digest text = if bytes_eq (before_state kept) (before_state text) then Again else Conflict digest

-- The limit that a further action of this text meets: that of actions, or that of the bytes of `actionsite` when all are stopped.
abbrev pub full_of_actions : Limits → List Change → List ℕ → Option Reply
full_of_actions limits rows text =
    first_of (full_if (nat_le limits.actions (count_by (is_of table.Actions) rows)) limits.actions
    ∷ full_if (nat_lt 4194304 (longest_actionsite (text ∷ action_texts rows))) 4194304 ∷ [])

-- Full where `actionsite` has its last version
abbrev pub full_version : List Change → Option Reply
full_version rows = full_if (nat_le (2 ^ 53) (actions_version rows)) (2 ^ 53)

-- The reply to an action, where this is the row of its id.
abbrev pub reply_to_action : Limits → List Change → Action → Option Change → Option Reply
reply_to_action limits rows action (Some (change.Action id text digest)) = Some (known_action text digest (action_text action))
reply_to_action limits rows action other =
    first_of (full_of_actions limits rows (action_text action) ∷ full_version rows ∷ [])

-- The reply to the stop of an action, where this is the row of its id.
abbrev pub reply_to_stop : List Change → Option Change → Option Reply
reply_to_stop rows (Some (change.Action id text digest)) = if is_stopped text then Some Again else full_version rows
reply_to_stop rows other = Some NoSuch

-- The reply to a file, where this is the row of its digest.
abbrev pub reply_to_file : Limits → List Change → List ℕ → Option Change → Option Reply
reply_to_file limits rows bytes (Some row) = Some (Digest (sha256 bytes))
reply_to_file limits rows bytes None = full_if (nat_le limits.files (count_by (is_of table.Files) rows)) limits.files

-- the reply to a report with this digest, where that one is kept of its computer and number
abbrev pub known_report : List ℕ → List ℕ → Reply
known_report kept digest = if bytes_eq kept digest then Again else Conflict kept

-- the limit that a further report meets: that of computers, where its own isn't kept, or that of reports
abbrev pub full_of_reports : Limits → List Change → Report → Option Reply
full_of_reports limits rows report =
    let is_new = is_none (computer_at report.computer rows) in
    first_of (full_if (is_new && nat_le limits.computers (count_by (is_of table.Computers) rows)) limits.computers
    ∷ full_if (nat_le limits.reports (count_by (is_of table.Reports) rows)) limits.reports ∷ [])

-- The reply to a report, where this is the row of its computer and number.
abbrev pub reply_to_report : Limits → List Change → Report → Option Change → Option Reply
reply_to_report limits rows report (Some (change.Report computer seq digest)) =
    Some (known_report digest (sha256 (report_text report)))
reply_to_report limits rows report other = full_of_reports limits rows report

-- the reply to what isn't accepted, over these rows; None where it is
abbrev pub reply_to : Limits → List Change → Entry → Option Reply
reply_to limits rows (Published site) = reply_to_site limits rows site (site_at site.name rows)
reply_to limits rows (Issued action) = reply_to_action limits rows action (action_at action.id rows)
reply_to limits rows (Stopped id) = reply_to_stop rows (action_at id rows)
reply_to limits rows (Filed bytes) = reply_to_file limits rows bytes (file_at (sha256 bytes) rows)
reply_to limits rows (Reported report) = reply_to_report limits rows report (report_at report.computer report.seq rows)

-- the reply to what is accepted
abbrev pub accepting_reply : Entry → Reply
accepting_reply (Filed bytes) = Digest (sha256 bytes)
accepting_reply other = Ok

-- the sites and `actionsite`, in byte order of their names
abbrev pub versions_reply : List Change → Reply
versions_reply rows = Sites (filter_map site_version rows)

-- the text of a site that is kept in this version; that of `actionsite` is made of the actions
abbrev pub text_of_site : List Change → List ℕ → ℕ → List ℕ → List ℕ
text_of_site rows name version text =
    if bytes_eq name (codes "actionsite") then actionsite_text version (action_texts rows) else text

-- The reply to one who has this version of a site, where this is the row of its name.
abbrev pub site_reply : List Change → ℕ → Option Change → Reply
site_reply rows version (Some (change.Site name kept text)) =
    if nat_lt version kept then told.Site (text_of_site rows name kept text) else Same
site_reply rows version other = NoSuch

-- The reply to one who asks for a file, where this is its row.
abbrev pub file_reply : Option Change → Reply
file_reply (Some (change.File digest bytes)) = Content bytes
file_reply other = NoSuch

-- the results of a computer that is kept, in ascending order of actions
abbrev pub results_reply : List Change → List ℕ → Reply
results_reply rows computer =
    if is_some (computer_at computer rows) then Rows (filter_map result_row (filter (is_result_of computer) rows)) else NoSuch

-- The reply to what is asked, where these were accepted before, the latest first.
abbrev pub reply : List Entry → Limits → Asked → Reply
reply accepted limits (Enters entry) = unwrap_or (reply_to limits (view accepted) entry) (accepting_reply entry)
reply accepted limits Versions = versions_reply (view accepted)
reply accepted limits (SiteText name version) = site_reply (view accepted) version (site_at name (view accepted))
reply accepted limits (FileBytes digest) = file_reply (file_at digest (view accepted))
reply accepted limits (Results computer) = results_reply (view accepted) computer
reply accepted limits (Bad line) = BadText line
