use Rattle.stapl_code.specs.Safe.{constants_of}
use Rattle.machine_scans.proofs.ScanLemmas.{ask_alike}
use Rattle.machine_scans.proofs.scan_parts.find_known.Goals as goal

pub returns-clause-kind : goal.returns-clause-kind
returns-clause-kind c = ask_alike (constants_of c.args.code.now) c.args.source c.find_bits.result c.find_bits.ensures.kind
