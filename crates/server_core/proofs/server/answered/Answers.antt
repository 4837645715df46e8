use Rattle.std.proofs.Common.{refl, subst, sym}
use Rattle.server_text.specs.declared.request.Request.{Request}
use Rattle.server_text.specs.Entries.{Enters, FileBytes, Filed, Results, SiteText, Stopped, Versions}
use Rattle.server_text.specs.RequestTexts.{Asks}
use Rattle.server_core.specs.Replies.{file_reply, results_reply, site_reply, versions_reply}
use Rattle.server_core.specs.AcceptedTables.{file_at, site_at}
use Rattle.server_core.proofs.Talking.{learns_answers, takes_answers}
use Rattle.server_core.proofs.server.answered.Goals as goal

pub returns-in-Stop : goal.returns-in-Stop
returns-in-Stop g c =
    let P : Request → Type 0 = λ r. Asks r (Enters (Stopped c.in-Stop.id)) in
    takes_answers c.args.limits c.args.request.now (Stopped c.in-Stop.id) (g.K.Keeper.told c.args.keeper.now) c.stop_action.result (g.K.Keeper.told c.stop_action.new.keeper) (subst P (sym c.in-Stop.is) refl) (c.stop_action.ensures c.args.limits)

pub returns-in-File : goal.returns-in-File
returns-in-File g c =
    let P : Request → Type 0 = λ r. Asks r (Enters (Filed c.in-File.bytes)) in
    takes_answers c.args.limits c.args.request.now (Filed c.in-File.bytes) (g.K.Keeper.told c.args.keeper.now) c.keep_file.result (g.K.Keeper.told c.keep_file.new.keeper) (subst P (sym c.in-File.is) refl) c.keep_file.ensures

pub returns-in-AskSites : goal.returns-in-AskSites
returns-in-AskSites g c =
    let a = c.in-AskSites in
    let P : Request → Type 0 = λ r. Asks r Versions in
    learns_answers c.args.limits c.args.request.now Versions versions_reply (g.K.Keeper.told c.args.keeper.now) c.ask_sites.result (g.K.Keeper.told c.ask_sites.new.keeper)
    (subst P (sym a.is) refl) (λ accepted. refl) (λ accepted. refl) c.ask_sites.ensures.plain c.ask_sites.ensures.learns

pub returns-in-AskSite : goal.returns-in-AskSite
returns-in-AskSite g c =
    let a = c.in-AskSite in
    let P : Request → Type 0 = λ r. Asks r (SiteText a.name a.version) in
    learns_answers c.args.limits c.args.request.now (SiteText a.name a.version) (λ rows. site_reply rows a.version (site_at a.name rows)) (g.K.Keeper.told c.args.keeper.now) c.ask_site.result (g.K.Keeper.told c.ask_site.new.keeper)
    (subst P (sym a.is) refl) (λ accepted. refl) (λ accepted. refl) c.ask_site.ensures.plain c.ask_site.ensures.learns

pub returns-in-AskFile : goal.returns-in-AskFile
returns-in-AskFile g c =
    let a = c.in-AskFile in
    let P : Request → Type 0 = λ r. Asks r (FileBytes a.digest) in
    learns_answers c.args.limits c.args.request.now (FileBytes a.digest) (λ rows. file_reply (file_at a.digest rows)) (g.K.Keeper.told c.args.keeper.now) c.ask_file.result (g.K.Keeper.told c.ask_file.new.keeper)
    (subst P (sym a.is) refl) (λ accepted. refl) (λ accepted. refl) c.ask_file.ensures.plain c.ask_file.ensures.learns

pub returns-in-Results : goal.returns-in-Results
returns-in-Results g c =
    let a = c.in-Results in
    let P : Request → Type 0 = λ r. Asks r (Results a.computer) in
    learns_answers c.args.limits c.args.request.now (Results a.computer) (λ rows. results_reply rows a.computer) (g.K.Keeper.told c.args.keeper.now) c.ask_results.result (g.K.Keeper.told c.ask_results.new.keeper)
    (subst P (sym a.is) refl) (λ accepted. refl) (λ accepted. refl) c.ask_results.ensures.plain c.ask_results.ensures.learns
