-- A play of a code that a program was compiled to has the answer of the play of the program.
use Rattle.std.proofs.Common.{ℕ, List, Option}
use Rattle.stapl_syntax.specs.Trees.{StmtTree}
use Rattle.stapl_syntax.specs.Programs.{IsProgram}
use Rattle.stapl_meaning.specs.Scopes.{as_played}
use Rattle.stapl_meaning.specs.Typed.{IsTyped}
use Rattle.tool_frame.specs.Files.{first_of, second_of}
use Rattle.tool_frame.proofs.AnswerLemmas.{IsWithin}
use Rattle.play_words.specs.declared.requests.Request.{Request}
use Rattle.play_words.specs.declared.requests.Request.TheVariants.{Run}
use Rattle.play_tool.specs.declared.sources.Source.TheVariants.{Code}
use Rattle.play_tool.specs.Answers.{SourceAnswer, WordsAnswer}
use Rattle.play_tool.specs.Compiled.{RunsCompiled, PlaysProgram}
use Rattle.play_tool.proofs.AnswerLemmas.{bytes_of_held, devices_of_board, request_of_words}
use Rattle.play_tool.proofs.CodeLemmas.{accepted_code}
use Rattle.play_tool.proofs.ProgramLemmas.{code_to_program}

-- each answer is that of the play of the program
pub answers_source : {words : List (List ℕ)} {contents_of : Request → List (Option (List ℕ))} →
    ((text : List ℕ) (program : List StmtTree) → IsProgram text program → IsTyped (as_played program)) →
    (q : RunsCompiled words contents_of) → IsWithin (WordsAnswer words contents_of) (PlaysProgram q)
answers_source {contents_of = contents_of} typed q = record {
  to = λ text status a.
      let request = (request_of_words {contents_of = contents_of} q.asked).to text status a in
      let held = (devices_of_board {held = first_of (contents_of (Run q.play))} q.devices q.board).to text status request in
      let code = (bytes_of_held (SourceAnswer Code q.play.request q.devices) (second_of (contents_of (Run q.play))) q.file q.held).to text status held in
      (code_to_program q.program q.compiled.code q.play.request q.devices (typed q.bytes q.program q.is) q.compiled.of_program).to text status
      (accepted_code q.compiled.code q.compiled.file code);
}
