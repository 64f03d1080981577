use Rattle.drive_tool.proofs.WordLemmas.{report_in_play}
use Rattle.drive_tool.proofs.words.read_play.Goals as goal

pub returns-in-None-clause-play : goal.returns-in-None-clause-play
returns-in-None-clause-play c = record {
  asked = rw (c.deref.ensures.value, c.in-Ok.ensures, c.play_in.ensures) at c.in-Ok-read_words.ensures.request;
  no_report = c.in-None.ensures.none;
}

pub returns-in-Ok-read_words-clause-refused : goal.returns-in-Ok-read_words-clause-refused
returns-in-Ok-read_words-clause-refused c =
    report_in_play c.in-Some.place c.in-Some.ensures.some c.in-Some.ensures.first (rw (c.deref.ensures.value, c.in-Ok.ensures) at c.in-Ok-read_words.ensures.request)
