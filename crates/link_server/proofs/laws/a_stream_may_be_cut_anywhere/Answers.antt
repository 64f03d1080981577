use Rattle.link_server.proofs.Cuts.{end_joined, answers_joined, taken_joined}
use Rattle.link_server.proofs.laws.a_stream_may_be_cut_anywhere.Goals as goal

pub returns : goal.returns
returns c = record {
  end = λ at front back. end_joined front back at;
  answers = λ at front back. answers_joined front back at;
  taken = λ at front back. taken_joined front back at;
}
