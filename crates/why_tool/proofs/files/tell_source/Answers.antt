use Rattle.why_tool.proofs.files.tell_source.Goals as goal

pub returns-in-Program-clause-says : goal.returns-in-Program-clause-says
returns-in-Program-clause-says g c = λ board is. rw c.in-Program.is (c.tell_program_file.ensures.says board is)

pub returns-in-Code-clause-says : goal.returns-in-Code-clause-says
returns-in-Code-clause-says g c = λ board is. rw c.in-Code.is (c.tell_code_in.ensures.says board is)

pub returns-in-Program-clause-files : goal.returns-in-Program-clause-files
returns-in-Program-clause-files g c = c.tell_program_file.ensures.files

pub returns-in-Code-clause-files : goal.returns-in-Code-clause-files
returns-in-Code-clause-files g c = c.tell_code_in.ensures.files
