use Rattle.std.proofs.Common.{refl}
use Rattle.tool_io.proofs.CauseLemmas.{kept_start, kept_then}
use Rattle.scan_paths.specs.Scans.{lengths_of}
use Rattle.stapl_machine.specs.Machines.{digits_in}
use Rattle.written_cable.specs.OnPaper.{lines_paper}
use Rattle.stapl_player.proofs.PlayLemmas.{played, played_front, broken_off, fault_after}
use Rattle.stapl_player.proofs.playing.play.Goals as goal

pub run-requires-clause-reset : goal.run-requires-clause-reset
run-requires-clause-reset g c = c.in-Ok.ensures.reset.open_now

pub returns-in-Ok-run-clause-played : goal.returns-in-Ok-run-clause-played
returns-in-Ok-run-clause-played g c =
    played g.C.Cable (lines_paper g.K.Sink) c.args.pins c.args.code.now c.args.chosen.now c.args.turns
    (lengths_of c.args.base.now) g.met.C.Cable.both_made c.args.cable.now c.reset_chain.new.cable c.run.new.cable c.args.out.now c.run.new.out
    (digits_in c.reset_chain.new.self) c.args.steps.now c.run.new.steps c.in-Ok.ensures.reset.reset c.in-Ok-run.ending c.run.new.self c.in-Ok-run.ensures.played

pub returns-in-Ok-run-clause-kept : goal.returns-in-Ok-run-clause-kept
returns-in-Ok-run-clause-kept g c = record {
  same_paper = c.in-Ok-run.ensures.kept.same_paper;
  whole_paper = c.in-Ok-run.ensures.kept.whole_paper;
  whole_cable = c.in-Ok-run.ensures.kept.whole_cable;
  cable_kept = kept_then c.reset_chain.ensures.cause.kept c.in-Ok-run.ensures.kept.cable_kept;
  paper_kept = c.in-Ok-run.ensures.kept.paper_kept;
  fault = tt;
}

pub returns-in-Err-run-clause-played : goal.returns-in-Err-run-clause-played
returns-in-Err-run-clause-played g c =
    played_front g.C.Cable (lines_paper g.K.Sink) c.args.pins c.args.code.now c.args.chosen.now c.args.turns
    (lengths_of c.args.base.now) g.met.C.Cable.both_made c.args.cable.now c.reset_chain.new.cable c.run.new.cable c.args.out.now c.run.new.out
    (digits_in c.reset_chain.new.self) c.args.steps.now c.run.new.steps c.in-Ok.ensures.reset.reset c.in-Err-run.ensures.played

pub returns-in-Err-run-clause-kept : goal.returns-in-Err-run-clause-kept
returns-in-Err-run-clause-kept g c = record {
  same_paper = c.in-Err-run.ensures.kept.same_paper;
  whole_paper = tt;
  whole_cable = tt;
  cable_kept = kept_then c.reset_chain.ensures.cause.kept c.in-Err-run.ensures.kept.cable_kept;
  paper_kept = c.in-Err-run.ensures.kept.paper_kept;
  fault = fault_after _ _ _ _ _ _ _ c.in-Err-run.trouble c.reset_chain.ensures.cause.kept c.in-Err-run.ensures.kept.fault;
}

pub returns-in-Err-clause-played : goal.returns-in-Err-clause-played
returns-in-Err-clause-played g c =
    broken_off g.C.Cable (lines_paper g.K.Sink) c.args.pins c.args.code.now c.args.chosen.now c.args.turns
    (lengths_of c.args.base.now) g.met.C.Cable.both_made c.args.cable.now c.reset_chain.new.cable c.args.out.now c.args.steps.now c.in-Err.ensures.reset.front

pub returns-in-Err-clause-kept : goal.returns-in-Err-clause-kept
returns-in-Err-clause-kept g c = record {
  same_paper = refl;
  whole_paper = tt;
  whole_cable = tt;
  cable_kept = c.reset_chain.ensures.cause.kept;
  paper_kept = kept_start _ _;
  fault = c.in-Err.ensures.cause.failed;
}
