use Rattle.std.proofs.Common.{◌∙◌, arith}
use Rattle.stapl_checker.proofs.WalkLemmas.{walk_on, reason_is, none_more, stops, listed_at}
use Rattle.stapl_checker.proofs.walk.walk.Goals as goal

pub loop-i-init : goal.loop-i-init
loop-i-init c = record {
  none = λ k lt. absurd (omega (arith, lt));
  course = c.first-course.ensures c.args.names.now;
}

pub returns-in-Some : goal.returns-in-Some
returns-in-Some c =
    stops c.args.names.now c.args.statements.now c.loop-i.i c.in-Some.reason c.loop-i-test.true c.loop-i.invariant.none
    (reason_is c.args.names.now c.args.statements.now c.loop-i.i c.index-statements-i.result c.index-statements-i.result c.loop-i.course c.reason_here.result c.loop-i-test.true
    c.index-statements-i.is c.loop-i.invariant.course c.reason_here.ensures ∙ c.in-Some.is)

pub after-course-requires-clause-listed : goal.after-course-requires-clause-listed
after-course-requires-clause-listed c =
    listed_at c.args.names.now c.args.statements.now c.loop-i.i c.index-statements-i.result c.index-statements-i.result c.loop-i-test.true c.index-statements-i.is c.requires.listed

pub loop-i-preserved : goal.loop-i-preserved
loop-i-preserved c = record {
  none = none_more c.args.names.now _ c.loop-i.i c.loop-i.invariant.none
      (reason_is c.args.names.now c.args.statements.now c.loop-i.i c.index-statements-i.result c.index-statements-i.result c.loop-i.course c.reason_here.result c.loop-i-test.true
      c.index-statements-i.is c.loop-i.invariant.course c.reason_here.ensures ∙ c.in-None.is);
  course = walk_on c.args.names.now c.args.statements.now c.loop-i.i c.index-statements-i.result c.index-statements-i.result c.loop-i.course c.after-course.result
      c.loop-i-test.true c.index-statements-i.is c.loop-i.invariant.course c.after-course.ensures;
}
