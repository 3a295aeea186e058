-- `bench_hosts::layout::put_marks` meets its contract: byte by byte.
use native.Mathlib.Omega.{arith}
use Rattle.bench_hosts.proofs.layout.put_marks.Goals as goal

pub shape_of-bytes : goal.shape_of-bytes
shape_of-bytes c =
    omega (
      arith,
      c.put_byte-9.auto,
      c.put_byte-8.auto,
      c.put_byte-7.auto,
      c.put_byte-6.auto,
      c.put_byte-5.auto,
      c.put_byte-4.auto,
      c.put_byte-3.auto,
      c.put_byte-2.auto,
      c.put_byte.auto,
    )

pub returns : goal.returns
returns c =
    rw (
      c.put_byte-9.ensures,
      c.flag-2.ensures,
      c.put_byte-8.ensures,
      c.put_byte-7.ensures,
      c.wait_command.ensures,
      c.put_byte-6.ensures,
      c.wait_number.ensures,
      c.put_byte-5.ensures,
      c.put_byte-4.ensures,
      c.put_byte-3.ensures,
      c.flag.ensures,
      c.put_byte-2.ensures,
      c.dialect_number.ensures,
      c.put_byte.ensures,
      c.line_number.ensures,
    )
