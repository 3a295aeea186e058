-- `bench_hosts::layout::write_host` meets its contract: all of a host, or nothing.
use Rattle.bench_hosts.proofs.Laying.{not_laid, all_laid}
use Rattle.bench_hosts.proofs.layout.write_host.Goals as goal

pub returns-then-bytes-ne-HOST_BYTES : goal.returns-then-bytes-ne-HOST_BYTES
returns-then-bytes-ne-HOST_BYTES c =
    let a = c.args in
    not_laid a.bytes.now a.host c.if-bytes-ne-HOST_BYTES.true

pub returns : goal.returns
returns c =
    let a = c.args in
    rw (c.put_marks.ensures, c.put_words.ensures) (all_laid a.bytes.now a.host c.if-bytes-ne-HOST_BYTES.false)
