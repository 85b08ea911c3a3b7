-- What is shown, for every accepted source: begin here
pub mod Theorem
pub mod Instance
-- the machine's side: instructions, code in memory, runs
pub mod Machine
pub mod Standing
pub mod Instructions
pub mod Results
-- the relation, and what the simulation says of each part
pub mod Related
pub mod Steps
pub mod Goals
-- one file for each kind of part, then all of them
pub mod Expressions
pub mod Arguments
pub mod Frames
pub mod Calls
pub mod Assignments
pub mod Commands
pub mod Blocks
pub mod Loops
pub mod Switches
pub mod Simulation
-- the assembled image has the code; the start; budgets and rooms
pub mod Fetching
pub mod Placing
pub mod WordCounts
pub mod Measures
pub mod Program
pub mod Start
pub mod Good
pub mod WellPlaced
pub mod AnyBudget
pub mod Faithful
-- every accepted source is good: its items can be written and read back, its labels differ, its sizes
pub mod Sounding
pub mod Bounds
pub mod StringFacts
pub mod GoodSource
pub mod Refusals
pub mod Sizes
pub mod Lengths
