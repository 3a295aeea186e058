-- A host written out has 41 bytes, and read back it is the same host.
use Rattle.std.specs.Prelude.{◌^◌, ◌<◌, ◌≡◌, length}
use Rattle.host_answers.specs.declared.Host.{Host}
use Rattle.bench_hosts.specs.rules.HostBytes.{host_bytes, wait_value, written_host, read_host}

-- every number of a host is of its type's range, as in every host that code holds
pub record InRange (h : Host) : Type 0 where
  pub length : h.length < 2 ^ 32
  pub tries : h.tries < 2 ^ 32
  pub pings : h.pings < 2 ^ 32
  pub offset : h.offset < 2 ^ 32
  pub spent : h.spent < 2 ^ 32
  pub value : wait_value h.stage.wait < 2 ^ 32
  pub last : h.ear.last < 2 ^ 64
  pub limit : h.limit < 2 ^ 8
  pub retries : h.retries < 2 ^ 8
  pub count : h.ear.count < 2 ^ 8

-- written out: 41 bytes
abbrev pub EachWritten : Type 0
EachWritten = (h : Host) → length (written_host h) ≡ host_bytes

-- and read back the same host
abbrev pub ReadBack : Type 0
ReadBack = (h : Host) → InRange h → read_host (written_host h) ≡ h
