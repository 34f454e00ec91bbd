-- The lemmas by which `search` decides the tests of a definition from the branches of the code. Assumes nothing.
use borrow.Author.Needs.{needs}
use borrow.Author.Tests.{lt-ltb, le-ltb, le-leb, lt-leb, eq-eqb, ne-eqb}

pub ruleset picks = (needs, lt-ltb, le-ltb, le-leb, lt-leb, eq-eqb, ne-eqb)
