mod Missed
