use Rattle.std.proofs.Common.{◌<◌, length, arith}
use Rattle.stapl_code.specs.Files.{most_bytes}
use Rattle.code_files.specs.CodeFaults.{too_long}
use Rattle.code_files.proofs.decoding.decode_code.Goals as goal

pub returns-then-bytes-gt-FILE_LIMIT-clause-refused : goal.returns-then-bytes-gt-FILE_LIMIT-clause-refused
returns-then-bytes-gt-FILE_LIMIT-clause-refused c =
    let long : most_bytes < length c.args.bytes.now = omega arith in too_long long
