use mathlib.Core.Path.{refl}
use Rattle.rows_step.specs.Inner.{work_of}
use Rattle.rows_step.proofs.work.work_of.Goals as goal

pub returns-in-Pkt : goal.returns-in-Pkt
unfolding work_of
returns-in-Pkt c = rw c.in-Pkt.is refl

pub returns-in-Add : goal.returns-in-Add
unfolding work_of
returns-in-Add c = rw (c.in-Add.is, c.putting.ensures, c.one.ensures) refl

pub returns-in-Addc : goal.returns-in-Addc
unfolding work_of
returns-in-Addc c = rw (c.in-Addc.is, c.one-in-Addc.ensures) refl

pub returns-in-Modn : goal.returns-in-Modn
unfolding work_of
returns-in-Modn c = rw (c.in-Modn.is, c.one-in-Modn.ensures) refl

pub returns-in-Dels : goal.returns-in-Dels
unfolding work_of
returns-in-Dels c = rw (c.in-Dels.is, c.removing.ensures) refl

pub returns-in-Deln : goal.returns-in-Deln
unfolding work_of
returns-in-Deln c = rw (c.in-Deln.is, c.removing-in-Deln.ensures) refl

pub returns-in-Idle : goal.returns-in-Idle
unfolding work_of
returns-in-Idle c = rw (c.in-Idle.is, c.putting-in-Idle.ensures) refl
