use Rattle.link_server.proofs.Cuts.{how_it_ends, closed_run}
use Rattle.link_server.proofs.laws.a_run_ends_after_a_quit_or_before_a_refused_byte.Goals as goal

pub returns : goal.returns
returns c = record {
  of_open = λ at bytes e. how_it_ends bytes at e;
  of_closed = λ at bytes e. closed_run at bytes e;
}
