pub mod Answering
mod Building
mod EndSearch
mod Fronts
mod Meaning
mod Worked
mod Judged
