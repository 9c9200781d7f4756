use Rattle.host.proofs.two.doorsedge_transfer_canonical.Goals as goal

pub returns-in-Ok : goal.returns-in-Ok
returns-in-Ok c = record {
  outcome = _;
  door = rw (c.in-Ok.is, c.unpack-to.ensures, c.unpack-from.ensures) at c.transfer_canonical.ensures;
  same = rw (c.pack.ensures, c.pack-in-Ok.ensures, c.numbers.ensures);
}
