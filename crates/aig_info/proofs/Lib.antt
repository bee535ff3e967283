pub mod LongestPath
