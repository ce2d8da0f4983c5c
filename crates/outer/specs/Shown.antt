-- The interfaces that a value of type Shown stands for. Assumes nothing.
use Rattle.outer.specs.declared.shown.Shown.{Shown}
use Rattle.outer.specs.Interfaces.{InterfacesM, interfaces_in}

abbrev pub shown_by : Shown → InterfacesM
shown_by shown = interfaces_in shown.n shown.m shown.lines.now
