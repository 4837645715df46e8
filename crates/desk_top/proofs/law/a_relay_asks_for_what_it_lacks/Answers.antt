use Rattle.desk_top.specs.AllDevices.{relaying}
use Rattle.desk_top.proofs.FilesOfRelay.{breaks_files, files_have_their_digest, relays_files}
use Rattle.desk_top.proofs.law.a_relay_asks_for_what_it_lacks.Goals as goal

pub returns : goal.returns
returns c =
    let keeps = c.a_relay_keeps_what_was_asked_for.ensures in record {
      whole = λ asked room input old new has did. relays_files keeps asked room (relaying old) (relaying new) has did;
      cut = λ asked room why old new has did. breaks_files keeps asked room (relaying old) why (relaying new) has did;
      digests = files_have_their_digest c.a_kept_file_was_given.ensures;
      alike = c.answers_are_those_without_a_cache.ensures;
    }
